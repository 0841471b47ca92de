-- What walks over a forest in its bytes stand on.
use Rattle.std.proofs.Common.{◌≡◌, ◌+◌, ◌<◌, ℕ, List, ◌∷◌, length, get_or, drop, Bool, true, false, ◌||◌, cond, is_some, refl, ap, sym, ◌∙◌, subst, Option, None, Some, Result, Ok, Err}
use Rattle.std.proofs.lemmas.List.{at_drop_more}
use Rattle.rb_trees.specs.declared.values.Value.{Value, out-Value}
use Rattle.rb_trees.specs.declared.forests.NodeFault.{NodeFault}
use Rattle.rb_trees.specs.mirror.Forests as forest
use Rattle.rb_trees.specs.mirror.Forests.{Holds, Entries, NoEntries, MoreEntries}
use Rattle.rb_trees.specs.Outcome.{◌>>=◌, known, Gives}
use Rattle.rb_meaning_bytes.specs.Fits.{Walk, step_of, is_at, is_left, are_left, leaves, faults_at, raised_or, went, form_has_kind, is_kept, behind_value, demanded, value_read, values_read, row_read}
use Rattle.rb_wire_forest.specs.Opens.{Open, AtNode}
use Rattle.rb_wire_forest.specs.CursorSteps.{has_entry, next_fault, next_value, Moves, closed}
use Rattle.rb_wire_forest.specs.Walks.{step_told}
use Rattle.rb_wire_forest.specs.declared.forest_walk.Progress.{Progress}
use Rattle.rb_wire_forest.specs.ForestWalks.{walk_of, InNode, Reaches, Walks}

-- ---- what the cursor tells of the innermost node

pub entry_told : (now : List Open) → InNode now (λ es f. has_entry now ≡ are_left es)
entry_told now es f around h = ap has_entry h ∙ go es
  where
    go : (es : Entries) → has_entry (AtNode (Holds es f) ∷ around) ≡ are_left es
    go NoEntries = refl
    go (MoreEntries e es) = refl

pub fault_told : (now : List Open) → InNode now (λ es f. next_fault now ≡ cond (are_left es) None f)
fault_told now es f around h = ap next_fault h ∙ go es
  where
    go : (es : Entries) → next_fault (AtNode (Holds es f) ∷ around) ≡ cond (are_left es) None f
    go NoEntries = refl
    go (MoreEntries e es) = refl

-- ---- what is left over

pub spare_left : (p : Progress) (es : Entries) (f : Option NodeFault) → p.spare ≡ true → true ≡ leaves (walk_of p es f)
spare_left p es f h = sym (ap (λ b. b || (are_left es || is_left (cond p.raised None (step_of f)))) h)

or_true : (b : Bool) → b || true ≡ true
or_true true = refl
or_true false = refl

pub entry_left : (p : Progress) (es : Entries) (f : Option NodeFault) → are_left es ≡ true → true ≡ leaves (walk_of p es f)
entry_left p es f h = sym (ap (λ b. p.spare || (b || is_left (cond p.raised None (step_of f)))) h ∙ or_true p.spare)

-- the node's fault alone may be left over
fault_left : (p : Progress) (es : Entries) (f : Option NodeFault) → p.spare ≡ false → are_left es ≡ false → is_left (cond p.raised None (step_of f)) ≡ leaves (walk_of p es f)
fault_left p es f h i =
    sym (ap (λ b. b || (are_left es || is_left (cond p.raised None (step_of f)))) h ∙ ap (λ b. b || is_left (cond p.raised None (step_of f))) i)

pub none_left : (p : Progress) (es : Entries) (f : Option NodeFault) → p.spare ≡ false → are_left es ≡ false → p.raised ≡ true → false ≡ leaves (walk_of p es f)
none_left p es f h i j = sym (ap (λ b. is_left (cond b None (step_of f))) j) ∙ fault_left p es f h i

pub fault_there : (p : Progress) (es : Entries) (f : Option NodeFault) (found : Option ℕ) (now : List Open) (b : Bool)
    → p.spare ≡ false → are_left es ≡ false → p.raised ≡ false → next_fault now ≡ cond (are_left es) None f → found ≡ step_of (next_fault now) → b ≡ is_some found → b ≡ leaves (walk_of p es f)
fault_there p es f found now b h i j k l m =
    m ∙ same found ∙ ap is_left (l ∙ ap step_of (k ∙ ap (λ a. cond a None f) i)) ∙ sym (ap (λ r. is_left (cond r None (step_of f))) j) ∙ fault_left p es f h i
  where
    same : (o : Option ℕ) → is_some o ≡ is_left o
    same None = refl
    same (Some x) = refl

-- ---- the node's fault at a step

pub raised_before : (p : Progress) (step : ℕ) (es : Entries) (f : Option NodeFault) → p.raised ≡ true → false ≡ faults_at step (walk_of p es f)
raised_before p step es f h = sym (ap (λ b. cond (are_left es) false (is_at step (cond b None (step_of f)))) h ∙ go (are_left es))
  where
    go : (b : Bool) → cond b false false ≡ false
    go true = refl
    go false = refl

pub fault_at : (p : Progress) (step : ℕ) (es : Entries) (f : Option NodeFault) (found : Option ℕ) (now : List Open)
    → p.raised ≡ false → next_fault now ≡ cond (are_left es) None f → found ≡ step_of (next_fault now) → is_at step found ≡ faults_at step (walk_of p es f)
fault_at p step es f found now h i j =
    ap (λ o. is_at step o) (j ∙ ap step_of i) ∙ go (are_left es) ∙ sym (ap (λ b. cond (are_left es) false (is_at step (cond b None (step_of f)))) h)
  where
    go : (b : Bool) → is_at step (step_of (cond b None f)) ≡ cond b false (is_at step (step_of f))
    go true = refl
    go false = refl

-- A step gives no entry.
pub passes : (read : Walk → Result Walk ℕ) (from p : Progress) (now : List Open) → InNode now (λ es f. Ok (walk_of p es f) ≡ read (walk_of from es f)) → Walks read now from (Ok p) now
passes read from p now k es f around h = (es, h, sym (k es f around h))

-- ---- a value

abbrev and_left : Value → List Open → Value × List Open
and_left v os = (v, os)

-- A value stands first.
pub record First (v : Value) (es : Entries) (f : Option NodeFault) (around new : List Open) : Type 0 where
  pub rest : Entries
  pub es_is : es ≡ MoreEntries (forest.Value v) rest
  pub new_is : new ≡ AtNode (Holds rest f) ∷ around

pub first_value : (v : Value) (old new : List Open) → next_value old ≡ Some (v, new) → (es : Entries) (f : Option NodeFault) (around : List Open) → old ≡ AtNode (Holds es f) ∷ around → First v es f around new
first_value v old new i es f around h = go es (sym (ap next_value h) ∙ i)
  where
    go : (es : Entries) → next_value (AtNode (Holds es f) ∷ around) ≡ Some (v, new) → First v es f around new
    go NoEntries j = absurd cc
    go (MoreEntries (forest.Value u) rest) j =
        let e : and_left u (AtNode (Holds rest f) ∷ around) ≡ and_left v new = cc in
        record { rest = rest; es_is = ap (λ x. MoreEntries (forest.Value x.0) rest) e; new_is = sym (ap (λ x. x.1) e) }
    go (MoreEntries (forest.Branch taken n) rest) j = absurd cc
    go (MoreEntries (forest.Rows ns) rest) j = absurd cc

pub no_value : (kind : ℕ) (old : List Open) → next_value old ≡ None → InNode old (λ es f. behind_value kind es ≡ None)
no_value kind old i es f around h = go es (sym (ap next_value h) ∙ i)
  where
    go : (es : Entries) → next_value (AtNode (Holds es f) ∷ around) ≡ None → behind_value kind es ≡ None
    go NoEntries j = refl
    go (MoreEntries (forest.Value u) rest) j = absurd cc
    go (MoreEntries (forest.Branch taken n) rest) j = refl
    go (MoreEntries (forest.Rows ns) rest) j = refl

-- A step's entry isn't there.
pub missed : {A : Type 0} (o : Option A) (go : A → Result Walk ℕ) (step : ℕ) (from : Progress) (es : Entries) (f : Option NodeFault) (around : List Open) (result : Result Progress ℕ) (new : List Open)
    → o ≡ None → new ≡ AtNode (Holds es f) ∷ around → Gives (λ p. walk_of p es f) step_told result (raised_or step (walk_of from es f) (Err step))
    → Reaches (demanded step (walk_of from es f) o go) f around result new
missed o go step from es f around (Ok p) new h i k = (es, i, ap (λ x. demanded step (walk_of from es f) x go) h ∙ k)
missed o go step from es f around (Err s) new h i k = ap (λ x. demanded step (walk_of from es f) x go) h ∙ k

pub value_fits : (step kind : ℕ) (from : Progress) (v : Value) (old new : List Open) → next_value old ≡ Some (v, new) → form_has_kind kind (out-Value v) ≡ true → Walks (value_read step kind) old from (Ok from) new
value_fits step kind from v old new i k es f around h =
    let a = first_value v old new i es f around h in (
      a.rest,
      a.new_is,
      ap (λ x. value_read step kind (walk_of from x f)) a.es_is
          ∙ ap (λ b. demanded step (walk_of from (MoreEntries (forest.Value v) a.rest) f) (cond b (Some a.rest) None) (λ es. Ok (went (walk_of from (MoreEntries (forest.Value v) a.rest) f) es))) k,
    )

pub value_differs : (step kind : ℕ) (from : Progress) (v : Value) (old new : List Open) → next_value old ≡ Some (v, new) → form_has_kind kind (out-Value v) ≡ false → Walks (value_read step kind) old from (Err step) new
value_differs step kind from v old new i k es f around h =
    let a = first_value v old new i es f around h in
    ap (λ x. value_read step kind (walk_of from x f)) a.es_is
    ∙ ap (λ b. demanded step (walk_of from (MoreEntries (forest.Value v) a.rest) f) (cond b (Some a.rest) None) (λ es. Ok (went (walk_of from (MoreEntries (forest.Value v) a.rest) f) es))) k

pub value_missed : (step kind : ℕ) (from : Progress) (old new : List Open) (result : Result Progress ℕ) → next_value old ≡ None → new ≡ old
    → InNode new (λ es f. Gives (λ p. walk_of p es f) step_told result (raised_or step (walk_of from es f) (Err step))) → Walks (value_read step kind) old from result new
value_missed step kind from old new result i n k es f around h =
    missed (behind_value kind es) (λ rest. Ok (went (walk_of from es f) rest)) step from es f around result new (no_value kind old i es f around h) (n ∙ h) (k es f around (n ∙ h))

-- ---- a row

pub row_dropped : (step kind : ℕ) (from : Progress) (old : List Open) → is_kept kind ≡ false → Walks (row_read step kind) old from (Ok from) old
row_dropped step kind from old i es f around h = (es, h, ap (λ b. cond b (known step (behind_value kind es) >>= λ rest. Ok (went (walk_of from es f) rest)) (Ok (walk_of from es f))) i)

-- where rows are kept, the row has to be there
kept : (step kind : ℕ) (from : Progress) (es : Entries) (f : Option NodeFault) → is_kept kind ≡ true → row_read step kind (walk_of from es f) ≡ (known step (behind_value kind es) >>= λ rest. Ok (went (walk_of from es f) rest))
kept step kind from es f i = ap (λ b. cond b (known step (behind_value kind es) >>= λ rest. Ok (went (walk_of from es f) rest)) (Ok (walk_of from es f))) i

row_first : (step kind : ℕ) (from : Progress) (v : Value) (rest : Entries) (f : Option NodeFault) (b : Bool) → is_kept kind ≡ true → form_has_kind kind (out-Value v) ≡ b
    → row_read step kind (walk_of from (MoreEntries (forest.Value v) rest) f) ≡ (known step (cond b (Some rest) None) >>= λ rest. Ok (walk_of from rest f))
row_first step kind from v rest f b i k = kept step kind from (MoreEntries (forest.Value v) rest) f i ∙ ap (λ c. known step (cond c (Some rest) None) >>= λ rest. Ok (walk_of from rest f)) k

pub row_fits : (step kind : ℕ) (from : Progress) (v : Value) (old new : List Open) → is_kept kind ≡ true → next_value old ≡ Some (v, new) → form_has_kind kind (out-Value v) ≡ true → Walks (row_read step kind) old from (Ok from) new
row_fits step kind from v old new r i k es f around h =
    let a = first_value v old new i es f around h in
    (a.rest, a.new_is, ap (λ x. row_read step kind (walk_of from x f)) a.es_is ∙ row_first step kind from v a.rest f true r k)

pub row_differs : (step kind : ℕ) (from : Progress) (v : Value) (old new : List Open) → is_kept kind ≡ true → next_value old ≡ Some (v, new) → form_has_kind kind (out-Value v) ≡ false → Walks (row_read step kind) old from (Err step) new
row_differs step kind from v old new r i k es f around h =
    let a = first_value v old new i es f around h in
    ap (λ x. row_read step kind (walk_of from x f)) a.es_is ∙ row_first step kind from v a.rest f false r k

pub row_missed : (step kind : ℕ) (from : Progress) (old new : List Open) → is_kept kind ≡ true → next_value old ≡ None → Walks (row_read step kind) old from (Err step) new
row_missed step kind from old new r i es f around h = kept step kind from es f r ∙ ap (λ o. known step o >>= λ rest. Ok (went (walk_of from es f) rest)) (no_value kind old i es f around h)

-- ---- values in a loop, as far as the walk has come

-- So far, and what is left, are all.
abbrev pub SoFar : (now all : Walk → Result Walk ℕ) → List Open → Progress → List Open → Progress → Type 0
SoFar now all old from new p =
    (es : Entries) (f : Option NodeFault) (around : List Open) → old ≡ AtNode (Holds es f) ∷ around
    → (left : Entries) × (new ≡ AtNode (Holds left f) ∷ around) × (now (walk_of p left f) ≡ all (walk_of from es f))

-- Nothing more is read: the walk ends so.
pub ends : (now all : Walk → Result Walk ℕ) (old new : List Open) (from p : Progress) → ((es : Entries) (f : Option NodeFault) → now (walk_of p es f) ≡ Ok (walk_of p es f)) → SoFar now all old from new p → Walks all old from (Ok p) new
ends now all old new from p k s es f around h =
    let a = s es f around h in
    (a.0, a.1, sym a.2 ∙ k a.0 f)

-- One more doesn't fit.
pub stops : (now one rest all : Walk → Result Walk ℕ) (old mid new : List Open) (from p : Progress) (step : ℕ) (result : Result Progress ℕ)
    → ((es : Entries) (f : Option NodeFault) → now (walk_of p es f) ≡ (one (walk_of p es f) >>= λ w. rest w)) → SoFar now all old from mid p → Walks one mid p (Err step) new → result ≡ Err step → Walks all old from result new
stops now one rest all old mid new from p step result k s w e es f around h =
    let a = s es f around h in
    subst (λ r. Reaches (all (walk_of from es f)) f around r new) (sym e) (sym a.2 ∙ k a.0 f ∙ ap (λ r. r >>= λ w. rest w) (w a.0 f around a.1))

-- A walk that goes on takes the next value.
pub values_next : (takes : List (ℕ × ℕ)) (i : ℕ) (take : ℕ × ℕ) (p : Progress) → i < length takes → p.stopped ≡ false → (es : Entries) (f : Option NodeFault)
    → values_read (drop i takes) (walk_of p es f) ≡ (value_read (get_or takes i take).0 (get_or takes i take).1 (walk_of p es f) >>= λ w. values_read (drop (i + 1) takes) w)
values_next takes i take p l h es f =
    at_drop_more (λ ts. values_read ts (walk_of p es f)) takes i take l
    ∙ ap (λ b. cond b (Ok (walk_of p es f)) (value_read (get_or takes i take).0 (get_or takes i take).1 (walk_of p es f) >>= λ w. values_read (drop (i + 1) takes) w)) h

-- ---- a node is closed

pub closed_is : (x o : Open) (os old new : List Open) (r : Bool) → old ≡ x ∷ o ∷ os → Moves closed old r new → new ≡ o ∷ os
closed_is x o os old new true h m =
    let e : Some new ≡ Some (o ∷ os) = sym m ∙ ap closed h in
    cc
closed_is x o os old new false h m =
    let e : None ≡ Some (o ∷ os) = sym m.0 ∙ ap closed h in
    absurd cc
