-- Look-ups of names and fields where these fit.
use Rattle.std.proofs.Common.{◌≡◌, refl, sym, ap, subst, ℕ, suc, List, [], ◌∷◌, length, Bool as Truth, true, false, cond, option_map, Option, Some, None, Ok}
use Rattle.std.specs.Str.{bytes_eq}
use Rattle.rb_trees.specs.Named.{first_named, lookup, replaced}
use Rattle.rb_trees.specs.declared.values.Value.{Value}
use Rattle.rb_trees.specs.mirror.Declarations.{Param, Interface}
use Rattle.rb_meaning_types.specs.Kinds as kind
use Rattle.rb_meaning_types.specs.Kinds.{Kind, kind_of}
use Rattle.rb_meaning_types.specs.Names.{field_named}
use Rattle.rb_meaning_types.specs.Expressions.{this_kind}
use Rattle.rb_meaning_types.specs.Scopes.{Scope, Variable, variable_named}
use Rattle.rb_meaning_types.specs.Fits.{Fits, FieldsFit, Frame, this_name, frame_scope, NamesFit}
use Rattle.rb_meaning_code.specs.Faults.{kind as kind_fault}
use Rattle.rb_meaning_code.specs.Expressions.{value_of}
use Rattle.rb_law_types.specs.Kept.{Fair}
use Rattle.rb_law_types.proofs.Faults.{SomeIs, known_fair}

abbrev pub first_value : Option (List ℕ × Value) → Option Value
first_value o = option_map (λ n. n.1) o

module _ (is : List Interface) (cs : List (List ℕ)) where
  -- in a list that fits a scope

  look : (vs : Scope) (ns : Frame) (name : List ℕ) (v : Variable) → NamesFit is cs vs ns → variable_named vs name ≡ Some v → SomeIs (Fits is cs v.kind) (lookup ns name)
  look [] ns name v h e = absurd (cc (e))
  look (w ∷ vs) [] name v h e = absurd h
  look (w ∷ vs) (n ∷ ns) name v h e = subst (λ m. SomeIs (Fits is cs v.kind) (first_value (cond (bytes_eq m name) (Some n) (first_named (λ p. p.0) ns name)))) h.0 (by (bytes_eq w.name name) e (look vs ns name v h.2))
    where
      by : (t : Truth) → cond t (Some w) (variable_named vs name) ≡ Some v → (variable_named vs name ≡ Some v → SomeIs (Fits is cs v.kind) (lookup ns name)) → SomeIs (Fits is cs v.kind) (first_value (cond t (Some n) (first_named (λ p. p.0) ns name)))
      by true e' more = let same : w ≡ v = cc (e') in subst (λ u. Fits is cs u.kind n.1) same h.1
      by false e' more = more e'

  put : (vs : Scope) (ns : Frame) (name : List ℕ) (v : Variable) (x : Value) → NamesFit is cs vs ns → variable_named vs name ≡ Some v → Fits is cs v.kind x → NamesFit is cs vs (replaced ns name x)
  put [] ns name v x h e fits = tt
  put (w ∷ vs) [] name v x h e fits = absurd h
  put (w ∷ vs) (n ∷ ns) name v x h e fits = subst (λ m. NamesFit is cs (w ∷ vs) (cond (bytes_eq m name) ((n.0, x) ∷ ns) (n ∷ replaced ns name x))) h.0 (by (bytes_eq w.name name) e (λ e'. put vs ns name v x h.2 e' fits))
    where
      by : (t : Truth) → cond t (Some w) (variable_named vs name) ≡ Some v → (variable_named vs name ≡ Some v → NamesFit is cs vs (replaced ns name x)) → NamesFit is cs (w ∷ vs) (cond t ((n.0, x) ∷ ns) (n ∷ replaced ns name x))
      by true e' more = let same : v ≡ w = cc (e') in (h.0, subst (λ u. Fits is cs u.kind x) same fits, h.2)
      by false e' more = (h.0, h.1, more e')

  -- in a frame, of names other than `this`

  frame_look : (this : Option (List ℕ)) (scope : Scope) (ns : Frame) (name : List ℕ) (v : Variable) → bytes_eq this_name name ≡ false → NamesFit is cs (frame_scope this scope) ns → variable_named scope name ≡ Some v
      → SomeIs (Fits is cs v.kind) (lookup ns name)
  frame_look None scope ns name v plain h e = look scope ns name v h e
  frame_look (Some class) scope ns name v plain h e = look (frame_scope (Some class) scope) ns name v h
      (subst (λ t. cond t (Some (record { name = this_name; kind = kind.Named class; fixed = true })) (variable_named scope name) ≡ Some v) (sym plain) e)

  pub frame_put : (this : Option (List ℕ)) (scope : Scope) (ns : Frame) (name : List ℕ) (v : Variable) (x : Value) → bytes_eq this_name name ≡ false → NamesFit is cs (frame_scope this scope) ns → variable_named scope name ≡ Some v
      → Fits is cs v.kind x → NamesFit is cs (frame_scope this scope) (replaced ns name x)
  frame_put None scope ns name v x plain h e fits = put scope ns name v x h e fits
  frame_put (Some class) scope ns name v x plain h e fits = put (frame_scope (Some class) scope) ns name v x h
      (subst (λ t. cond t (Some (record { name = this_name; kind = kind.Named class; fixed = true })) (variable_named scope name) ≡ Some v) (sym plain) e) fits

  pub name_fits : (this : Option (List ℕ)) (scope : Scope) (ns : Frame) (name : List ℕ) (v : Variable) → bytes_eq this_name name ≡ false → NamesFit is cs (frame_scope this scope) ns → variable_named scope name ≡ Some v
      → Fair (Fits is cs v.kind) (value_of ns name)
  name_fits this scope ns name v plain h e = known_fair (Fits is cs v.kind) kind_fault (lookup ns name) (frame_look this scope ns name v plain h e)

  pub this_fits : (this : Option (List ℕ)) (scope : Scope) (ns : Frame) (at : ℕ) (k : Kind) → NamesFit is cs (frame_scope this scope) ns → this_kind this at ≡ Ok k → Fair (Fits is cs k) (value_of ns this_name)
  this_fits (Some class) scope ns at k h e =
      let same : kind.Named class ≡ k = cc (e) in
      subst (λ m. Fair (Fits is cs m) (value_of ns this_name)) same
      (known_fair (Fits is cs (kind.Named class)) kind_fault (lookup ns this_name) (look (frame_scope (Some class) scope) ns this_name (record { name = this_name; kind = kind.Named class; fixed = true }) h refl))
  this_fits None scope ns at k h e = absurd (cc (e))

  -- fields

  field_look : (ps : List Param) (fs : List (List ℕ × Value)) (name : List ℕ) (p : Param) → FieldsFit is cs ps fs → field_named ps name ≡ Some p → SomeIs (Fits is cs (kind_of p.kind)) (lookup fs name)
  field_look [] fs name p h e = absurd (cc (e))
  field_look (q ∷ ps) [] name p h e = absurd h
  field_look (q ∷ ps) (f ∷ fs) name p h e = subst (λ m. SomeIs (Fits is cs (kind_of p.kind)) (first_value (cond (bytes_eq m name) (Some f) (first_named (λ n. n.0) fs name)))) h.0 (by (bytes_eq q.name name) e (field_look ps fs name p h.2))
    where
      by : (t : Truth) → cond t (Some q) (field_named ps name) ≡ Some p → (field_named ps name ≡ Some p → SomeIs (Fits is cs (kind_of p.kind)) (lookup fs name)) → SomeIs (Fits is cs (kind_of p.kind)) (first_value (cond t (Some f) (first_named (λ n. n.0) fs name)))
      by true e' more = let same : q ≡ p = cc (e') in subst (λ u. Fits is cs (kind_of u.kind) f.1) same h.1
      by false e' more = more e'

  pub field_put : (ps : List Param) (fs : List (List ℕ × Value)) (name : List ℕ) (p : Param) (x : Value) → FieldsFit is cs ps fs → field_named ps name ≡ Some p → Fits is cs (kind_of p.kind) x → FieldsFit is cs ps (replaced fs name x)
  field_put [] fs name p x h e fits = absurd (cc (e))
  field_put (q ∷ ps) [] name p x h e fits = absurd h
  field_put (q ∷ ps) (f ∷ fs) name p x h e fits = subst (λ m. FieldsFit is cs (q ∷ ps) (cond (bytes_eq m name) ((f.0, x) ∷ fs) (f ∷ replaced fs name x))) h.0 (by (bytes_eq q.name name) e (λ e'. field_put ps fs name p x h.2 e' fits))
    where
      by : (t : Truth) → cond t (Some q) (field_named ps name) ≡ Some p → (field_named ps name ≡ Some p → FieldsFit is cs ps (replaced fs name x)) → FieldsFit is cs (q ∷ ps) (cond t ((f.0, x) ∷ fs) (f ∷ replaced fs name x))
      by true e' more = let same : p ≡ q = cc (e') in (h.0, subst (λ u. Fits is cs (kind_of u.kind) x) same fits, h.2)
      by false e' more = (h.0, h.1, more e')

  pub field_there : (ps : List Param) (fs : List (List ℕ × Value)) (name : List ℕ) (p : Param) → FieldsFit is cs ps fs → field_named ps name ≡ Some p → SomeIs (Fits is cs (kind_of p.kind)) (lookup fs name)
  field_there = field_look

-- the frame keeps its length
pub put_count : (ns : Frame) (name : List ℕ) (x : Value) → length ns ≡ length (replaced ns name x)
put_count [] name x = refl
put_count (n ∷ ns) name x = by (bytes_eq n.0 name) (put_count ns name x)
  where
    by : (t : Truth) → length ns ≡ length (replaced ns name x) → suc (length ns) ≡ length (cond t ((n.0, x) ∷ ns) (n ∷ replaced ns name x))
    by true e = refl
    by false e = ap suc e
