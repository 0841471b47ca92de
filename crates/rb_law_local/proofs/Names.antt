-- What becomes of the names that a client has too where names are looked up, added, changed and dropped.
use Rattle.std.proofs.Common.{◌≡◌, refl, sym, ap, ◌∙◌, ℕ, suc, List, [], ◌∷◌, ◌++◌, length, take, append_assoc, append-nil, Bool as Truth, true, false, cond, Option, Some, None}
use Rattle.std.specs.Str.{bytes_eq}
use Rattle.std.proofs.Math.Seq.{take-append_seam}
use Rattle.rb_trees.specs.Named.{first_named, lookup, replaced}
use Rattle.rb_trees.specs.declared.values.Value.{Value}
use Rattle.rb_trees.specs.mirror.Declarations.{Interface}
use Rattle.rb_meaning_types.specs.Kinds as kind
use Rattle.rb_meaning_types.specs.Kinds.{Kind}
use Rattle.rb_meaning_types.specs.Declared.{Declarations, Context}
use Rattle.rb_meaning_types.specs.Scopes.{Scope, Variable, variable_named, with_variable}
use Rattle.rb_meaning_types.specs.Fits.{this_name, frame_scope, NamesFit}
use Rattle.rb_meaning_code.specs.State.{Names, Local, bound, closed}
use Rattle.rb_law_types.proofs.Names.{first_value}
use Rattle.rb_law_local.specs.Shown.{is_far, shown, seen, named, at_client, Fronts}

-- names that stand first, whatever they hold
abbrev pub Begins : Scope → Names → Type 0
Begins [] ns = Unit {0}
Begins (v ∷ vs) [] = ⊥
Begins (v ∷ vs) (n ∷ ns) = (v.name ≡ n.0) × Begins vs ns

pub begins_fit : (is : List Interface) (cs : List (List ℕ)) (vs : Scope) (ns : Names) → NamesFit is cs vs ns → Begins vs ns
begins_fit is cs [] ns h = tt
begins_fit is cs (v ∷ vs) [] h = absurd h
begins_fit is cs (v ∷ vs) (n ∷ ns) h = (h.0, begins_fit is cs vs ns h.2)

module _ (d : Declarations) where
  -- how many of a scope's names a client has
  abbrev count : Scope → ℕ
  count [] = 0
  count (v ∷ vs) = cond (is_far d v.kind) (count vs) (suc (count vs))

  shown_count : (vs : Scope) (ns : Names) → Begins vs ns → length (shown d vs ns) ≡ count vs
  shown_count [] ns h = refl
  shown_count (v ∷ vs) [] h = absurd h
  shown_count (v ∷ vs) (n ∷ ns) h = by (is_far d v.kind) (shown_count vs ns h.1)
    where
      by : (t : Truth) → length (shown d vs ns) ≡ count vs → length (cond t (shown d vs ns) (n ∷ shown d vs ns)) ≡ cond t (count vs) (suc (count vs))
      by true e = e
      by false e = ap suc e

  -- those of a longer scope begin with those of the shorter one
  shown_more : (vs ws : Scope) (ns : Names) → Begins vs ns → (rest : Names) × (shown d (vs ++ ws) ns ≡ shown d vs ns ++ rest)
  shown_more [] ws ns h = (shown d ws ns, refl)
  shown_more (v ∷ vs) ws [] h = absurd h
  shown_more (v ∷ vs) ws (n ∷ ns) h = let m = shown_more vs ws ns h.1 in (m.0, by (is_far d v.kind) m.0 m.1)
    where
      by : (t : Truth) (rest : Names) → shown d (vs ++ ws) ns ≡ shown d vs ns ++ rest
          → cond t (shown d (vs ++ ws) ns) (n ∷ shown d (vs ++ ws) ns) ≡ cond t (shown d vs ns) (n ∷ shown d vs ns) ++ rest
      by true rest e = e
      by false rest e = ap (λ q. n ∷ q) e

  shown_take : (vs : Scope) (ns : Names) → shown d vs (take (length vs) ns) ≡ shown d vs ns
  shown_take [] ns = refl
  shown_take (v ∷ vs) [] = refl
  shown_take (v ∷ vs) (n ∷ ns) = ap (λ q. cond (is_far d v.kind) q (n ∷ q)) (shown_take vs ns)

  shown_added : (vs : Scope) (ns : Names) (v : Variable) (n : List ℕ × Value) → length vs ≡ length ns → is_far d v.kind ≡ false → shown d (vs ++ v ∷ []) (ns ++ n ∷ []) ≡ shown d vs ns ++ n ∷ []
  shown_added [] [] v n same near = ap (λ t. cond t [] (n ∷ [])) near
  shown_added [] (m ∷ ns) v n same near = absurd (cc (same))
  shown_added (w ∷ vs) [] v n same near = absurd (cc (same))
  shown_added (w ∷ vs) (m ∷ ns) v n same near = by (is_far d w.kind) (shown_added vs ns v n (cc (same)) near)
    where
      by : (t : Truth) → shown d (vs ++ v ∷ []) (ns ++ n ∷ []) ≡ shown d vs ns ++ n ∷ []
          → cond t (shown d (vs ++ v ∷ []) (ns ++ n ∷ [])) (m ∷ shown d (vs ++ v ∷ []) (ns ++ n ∷ [])) ≡ cond t (shown d vs ns) (m ∷ shown d vs ns) ++ n ∷ []
      by true e = e
      by false e = ap (λ q. m ∷ q) e

  -- a name that a client has is looked up alike
  shown_first : (vs : Scope) (ns : Names) (name : List ℕ) (v : Variable) → Begins vs ns → variable_named vs name ≡ Some v → is_far d v.kind ≡ false
      → first_named (λ n. n.0) (shown d vs ns) name ≡ first_named (λ n. n.0) ns name
  shown_first [] ns name v h e near = absurd (cc (e))
  shown_first (w ∷ vs) [] name v h e near = absurd h
  shown_first (w ∷ vs) (n ∷ ns) name v h e near =
      by (bytes_eq w.name name) (is_far d w.kind) (ap (λ q. bytes_eq q name) (sym h.0)) refl e (λ e'. shown_first vs ns name v h.1 e' near)
    where
      by : (t u : Truth) → bytes_eq n.0 name ≡ t → is_far d w.kind ≡ u → cond t (Some w) (variable_named vs name) ≡ Some v
          → (variable_named vs name ≡ Some v → first_named (λ m. m.0) (shown d vs ns) name ≡ first_named (λ m. m.0) ns name)
          → first_named (λ m. m.0) (cond u (shown d vs ns) (n ∷ shown d vs ns)) name ≡ cond (bytes_eq n.0 name) (Some n) (first_named (λ m. m.0) ns name)
      by true true is far e' more = let same : w ≡ v = cc (e') in absurd (cc (near, ap (λ q. is_far d q.kind) (sym same) ∙ far))
      by true false is far e' more = ap (λ t. cond t (Some n) (first_named (λ m. m.0) (shown d vs ns) name)) is ∙ sym (ap (λ t. cond t (Some n) (first_named (λ m. m.0) ns name)) is)
      by false true is far e' more = more e' ∙ sym (ap (λ t. cond t (Some n) (first_named (λ m. m.0) ns name)) is)
      by false false is far e' more = ap (cond (bytes_eq n.0 name) (Some n)) (more e')

  -- and so it is changed
  shown_put : (vs : Scope) (ns : Names) (name : List ℕ) (v : Variable) (value : Value) → Begins vs ns → variable_named vs name ≡ Some v → is_far d v.kind ≡ false
      → shown d vs (replaced ns name value) ≡ replaced (shown d vs ns) name value
  shown_put [] ns name v value h e near = absurd (cc (e))
  shown_put (w ∷ vs) [] name v value h e near = absurd h
  shown_put (w ∷ vs) (n ∷ ns) name v value h e near =
      by (bytes_eq w.name name) (is_far d w.kind) (ap (λ q. bytes_eq q name) (sym h.0)) refl e (λ e'. shown_put vs ns name v value h.1 e' near)
    where
      by : (t u : Truth) → bytes_eq n.0 name ≡ t → is_far d w.kind ≡ u → cond t (Some w) (variable_named vs name) ≡ Some v
          → (variable_named vs name ≡ Some v → shown d vs (replaced ns name value) ≡ replaced (shown d vs ns) name value)
          → shown d (w ∷ vs) (cond (bytes_eq n.0 name) ((n.0, value) ∷ ns) (n ∷ replaced ns name value)) ≡ replaced (cond u (shown d vs ns) (n ∷ shown d vs ns)) name value
      by true true is far e' more = let same : w ≡ v = cc (e') in absurd (cc (near, ap (λ q. is_far d q.kind) (sym same) ∙ far))
      by true false is far e' more =
          ap (λ t. shown d (w ∷ vs) (cond t ((n.0, value) ∷ ns) (n ∷ replaced ns name value))) is
          ∙ ap (λ u. cond u (shown d vs ns) ((n.0, value) ∷ shown d vs ns)) far
          ∙ sym (ap (λ t. cond t ((n.0, value) ∷ shown d vs ns) (n ∷ replaced (shown d vs ns) name value)) is)
      by false true is far e' more =
          ap (λ t. shown d (w ∷ vs) (cond t ((n.0, value) ∷ ns) (n ∷ replaced ns name value))) is
          ∙ ap (λ u. cond u (shown d vs (replaced ns name value)) (n ∷ shown d vs (replaced ns name value))) far
          ∙ more e'
      by false false is far e' more =
          ap (λ t. shown d (w ∷ vs) (cond t ((n.0, value) ∷ ns) (n ∷ replaced ns name value))) is
          ∙ ap (λ u. cond u (shown d vs (replaced ns name value)) (n ∷ shown d vs (replaced ns name value))) far
          ∙ ap (λ q. n ∷ q) (more e')
          ∙ sym (ap (λ t. cond t ((n.0, value) ∷ shown d vs ns) (n ∷ replaced (shown d vs ns) name value)) is)

-- a name other than `this` stands in a frame as in its scope
framed : (this : Option (List ℕ)) (scope : Scope) (name : List ℕ) (v : Variable) → bytes_eq this_name name ≡ false → variable_named scope name ≡ Some v → variable_named (frame_scope this scope) name ≡ Some v
framed None scope name v plain e = e
framed (Some class) scope name v plain e =
    ap (λ t. cond t (Some (record { name = this_name; kind = kind.Named class; fixed = true })) (variable_named scope name)) plain ∙ e

pub framed_more : (this : Option (List ℕ)) (scope more : Scope) → frame_scope this (scope ++ more) ≡ frame_scope this scope ++ more
framed_more None scope more = refl
framed_more (Some class) scope more = refl

-- A scope goes on in another one.
abbrev pub Extends : Scope → Scope → Type 0
Extends scope after = (more : Scope) × (scope ++ more ≡ after)

pub extends_same : (scope after : Scope) → scope ≡ after → Extends scope after
extends_same scope after e = ([], append-nil scope ∙ e)

module _ (x : Context) where
  -- what stands in the frame
  abbrev pub Framed : Scope → Names → Type 0
  Framed scope ns = Begins (frame_scope x.this scope) ns

  pub seen_value : (scope : Scope) (ns : Names) (name : List ℕ) (v : Variable) → bytes_eq this_name name ≡ false → Framed scope ns → variable_named scope name ≡ Some v → is_far x.declared v.kind ≡ false
      → lookup (seen x scope ns) name ≡ lookup ns name
  seen_value scope ns name v plain h e near = ap first_value (shown_first x.declared (frame_scope x.this scope) ns name v h (framed x.this scope name v plain e) near)

  pub seen_this : (class : List ℕ) (scope : Scope) (ns : Names) → x.this ≡ Some class → Framed scope ns → is_far x.declared (kind.Named class) ≡ false → lookup (seen x scope ns) this_name ≡ lookup ns this_name
  seen_this class scope ns is h near =
      ap first_value (shown_first x.declared (frame_scope x.this scope) ns this_name (record { name = this_name; kind = kind.Named class; fixed = true }) h
      (ap (λ this. variable_named (frame_scope this scope) this_name) is) near)

  pub seen_put : (scope : Scope) (ns : Names) (name : List ℕ) (v : Variable) (value : Value) → bytes_eq this_name name ≡ false → Framed scope ns → variable_named scope name ≡ Some v → is_far x.declared v.kind ≡ false
      → seen x scope (replaced ns name value) ≡ replaced (seen x scope ns) name value
  seen_put scope ns name v value plain h e near = shown_put x.declared (frame_scope x.this scope) ns name v value h (framed x.this scope name v plain e) near

  -- a name more
  pub seen_bound : (scope : Scope) (l : Local) (name : List ℕ) (k : Kind) (fixed : Truth) (value : Value) → length (frame_scope x.this scope) ≡ length l.names → is_far x.declared k ≡ false
      → at_client x (with_variable scope name k fixed) (bound name value l) ≡ bound name value (at_client x scope l)
  seen_bound scope l name k fixed value same near =
      let v : Variable = record { name = name; kind = k; fixed = fixed } in
      ap (λ q. named q l) (ap (λ q. shown x.declared q (l.names ++ (name, value) ∷ [])) (framed_more x.this scope (v ∷ [])) ∙ shown_added x.declared (frame_scope x.this scope) l.names v (name, value) same near)

  -- fronts of names

  pub fronts_same : (scope : Scope) (l : Local) → Fronts x scope l (at_client x scope l)
  fronts_same scope l = record { rest = []; same = ap (λ q. named q l) (sym (append-nil (seen x scope l.names))) }

  pub fronts_less : (scope after : Scope) (l client : Local) → Extends scope after → Framed scope l.names → Fronts x after l client → Fronts x scope l client
  fronts_less scope after l client extends h f = record { rest = m.0 ++ f.rest; same = f.same ∙ ap (λ q. named q l) (ap (λ q. q ++ f.rest) longer ∙ moved) }
    where
      m : (rest : Names) × (shown x.declared (frame_scope x.this scope ++ extends.0) l.names ≡ seen x scope l.names ++ rest)
      m = shown_more x.declared (frame_scope x.this scope) extends.0 l.names h

      longer : seen x after l.names ≡ seen x scope l.names ++ m.0
      longer = ap (λ q. seen x q l.names) (sym extends.1) ∙ ap (λ q. shown x.declared q l.names) (framed_more x.this scope extends.0) ∙ m.1

      moved : (seen x scope l.names ++ m.0) ++ f.rest ≡ seen x scope l.names ++ (m.0 ++ f.rest)
      moved = append_assoc (seen x scope l.names) m.0 f.rest

  -- at the end of a block the names of before are left on both sides
  pub fronts_closed : (scope : Scope) (l l1 client : Local) → Framed scope l.names → length (frame_scope x.this scope) ≡ length l.names → Framed scope l1.names → Fronts x scope l1 client
      → closed (length (at_client x scope l).names) client ≡ at_client x scope (closed (length l.names) l1)
  fronts_closed scope l l1 client h same h1 f =
      ap (closed (length (seen x scope l.names))) f.same
      ∙ ap (λ q. named q l1)
      (ap (λ q. take q (seen x scope l1.names ++ f.rest)) (shown_count x.declared (frame_scope x.this scope) l.names h ∙ sym (shown_count x.declared (frame_scope x.this scope) l1.names h1))
      ∙ take-append_seam (seen x scope l1.names) f.rest
      ∙ sym (shown_take x.declared (frame_scope x.this scope) l1.names)
      ∙ ap (λ q. seen x scope (take q l1.names)) same)
