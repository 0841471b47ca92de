-- The division that is found by its position is that of the batch there.
use Rattle.std.proofs.Common.{◌≡◌, refl, sym, ap, ◌∙◌, subst, ℕ, List, [], ◌∷◌, length}
use Rattle.std.proofs.lemmas.Bool.{eqb-true}
use Rattle.std.specs.Prelude.{Bool, true, false, cond, nat_eq, nat_lt, map, Option, None, Some, Result, Ok, Err}
use Rattle.std.specs.List.{Contains}
use Rattle.rb_trees.specs.CodeSize.{code_size_of}
use Rattle.rb_trees.specs.declared.refusals.Refusal.{Refusal}
use Rattle.rb_trees.specs.declared.remainders.Split.{Split}
use Rattle.rb_trees.specs.mirror.Declarations.{Program}
use Rattle.rb_trees.specs.mirror.Scripts.{mirror_script}
use Rattle.rb_meaning_types.specs.Lawful.{IsLawful}
use Rattle.rb_meaning_types.specs.Programs.{check_program}
use Rattle.rb_meaning_flow.specs.Facts.{facts_of}
use Rattle.rb_meaning_flow.specs.Outermost.{Outermost, program_batches}
use Rattle.rb_meaning.specs.Unsplit.{batch_at, batch_within}
use Rattle.rb_meaning_split.specs.Division.{Division, checked_code, divided, divided_all, divided_before, division, divisions, inputs_of, longest_code, most_inputs, mirror_split}
use Rattle.rb_flow.specs.Program.{HasNoRefusal}
use Rattle.rb_law_division.specs.Sendable.{DividedCanBeSent, HasPlaces}
use Rattle.rb_flow.proofs.Members.{first_contained, more_contained}
use Rattle.rb_client.specs.Exchanges.{AllCanBeSent, CanBeSent}
use Rattle.rb_client.specs.Splits.{split_at}

pub position : (p : Program) (b : Outermost) → (division p b).at ≡ b.at
unfolding division
position p b = refl

pub counted : (p : Program) (b : Outermost) → (division p b).script.inputs ≡ length (division p b).inputs
unfolding division
counted p b = refl

-- what is divided is divided so
by_size : (t : Bool) (refusal : Refusal) (d e : Division) → cond t (Err refusal) (Ok d) ≡ Ok e → d ≡ e
by_size true refusal d e h = absurd (cc h)
by_size false refusal d e h = cc h

by_count : (t : Bool) (refusal : Refusal) (r : Result Division Refusal) (e : Division) → cond t (Err refusal) r ≡ Ok e → r ≡ Ok e
by_count true refusal r e h = absurd (cc h)
by_count false refusal r e h = h

divided_so : (p : Program) (b : Outermost) (d : Division) → divided p b ≡ Ok d → division p b ≡ d
divided_so p b d h =
    by_size (nat_lt longest_code (code_size_of (division p b).script)) _ (division p b) d (by_count (nat_lt most_inputs (length (inputs_of p b))) _ (checked_code (division p b)) d h)

-- what a list of divisions begins with
record Parts (r : Result Division Refusal) (rest : Result (List Division) Refusal) (d : Division) (ds : List Division) : Type 0 where
  first : r ≡ Ok d
  others : rest ≡ Ok ds

before : (r : Result Division Refusal) (rest : Result (List Division) Refusal) (d : Division) (ds : List Division) → divided_before r rest ≡ Ok (d ∷ ds) → Parts r rest d ds
before (Err refusal) rest d ds h = absurd (cc h)
before (Ok x) (Err refusal) d ds h = absurd (cc h)
before (Ok x) (Ok xs) d ds h =
    let same : x ∷ xs ≡ d ∷ ds = cc h in
    let first : x ≡ d = cc same in
    let others : xs ≡ ds = cc same in
    record { first = ap Ok first; others = ap Ok others }

none_before : (r : Result Division Refusal) (rest : Result (List Division) Refusal) → divided_before r rest ≡ Ok [] → ⊥
none_before (Err refusal) rest h = absurd (cc h)
none_before (Ok x) (Err refusal) h = absurd (cc h)
none_before (Ok x) (Ok xs) h = absurd (cc h)

-- the batch of a division
pub record IsOf (p : Program) (bs : List Outermost) (at : ℕ) (split : Split) : Type 0 where
  pub batch : Outermost
  pub stands : batch_within bs at ≡ Some batch
  pub place : split.at ≡ at
  pub is : mirror_split split ≡ division p batch

found_here : (p : Program) (bs : List Outermost) (ss : List Split) (at : ℕ) (split : Split) (b : Outermost) (s : Split) (t : Bool) → nat_eq s.at at ≡ t → b.at ≡ s.at → mirror_split s ≡ division p b
    → (split_at ss at ≡ Some split → IsOf p bs at split) → cond t (Some s) (split_at ss at) ≡ Some split → IsOf p (b ∷ bs) at split
found_here p bs ss at split b s true e same is rest h =
    let found : s ≡ split = cc h in
    record {
      batch = b;
      stands = ap (λ n. cond (nat_eq n at) (Some b) (batch_within bs at)) same ∙ ap (λ t. cond t (Some b) (batch_within bs at)) e;
      place = ap (λ x. x.at) (sym found) ∙ eqb-true s.at at e;
      is = ap mirror_split (sym found) ∙ is;
    }
found_here p bs ss at split b s false e same is rest h =
    let r = rest h in
    record {
      batch = r.batch;
      stands = ap (λ n. cond (nat_eq n at) (Some b) (batch_within bs at)) same ∙ ap (λ t. cond t (Some b) (batch_within bs at)) e ∙ r.stands;
      place = r.place;
      is = r.is;
    }

found_in : (p : Program) (bs : List Outermost) (ss : List Split) (at : ℕ) (split : Split) → divided_all p bs ≡ Ok (map mirror_split ss) → split_at ss at ≡ Some split → IsOf p bs at split
found_in p bs [] at split h e = absurd (cc e)
found_in p [] (s ∷ ss) at split h e = absurd (cc h)
found_in p (b ∷ bs) (s ∷ ss) at split h e =
    let parts = before (divided p b) (divided_all p bs) (mirror_split s) (map mirror_split ss) h in
    let is = divided_so p b (mirror_split s) parts.first in
    let same : b.at ≡ s.at = sym (position p b) ∙ ap (λ d. d.at) is in
    found_here p bs ss at split b s (nat_eq s.at at) refl same (sym is) (λ f. found_in p bs ss at split parts.others f) e

none_here : (p : Program) (bs : List Outermost) (ss : List Split) (at : ℕ) (b : Outermost) (s : Split) (t : Bool) → nat_eq s.at at ≡ t → b.at ≡ s.at → (split_at ss at ≡ None → batch_within bs at ≡ None) → cond t (Some s) (split_at ss at) ≡ None
    → batch_within (b ∷ bs) at ≡ None
none_here p bs ss at b s true e same rest h = absurd (cc h)
none_here p bs ss at b s false e same rest h = ap (λ n. cond (nat_eq n at) (Some b) (batch_within bs at)) same ∙ ap (λ t. cond t (Some b) (batch_within bs at)) e ∙ rest h

none_in : (p : Program) (bs : List Outermost) (ss : List Split) (at : ℕ) → divided_all p bs ≡ Ok (map mirror_split ss) → split_at ss at ≡ None → batch_within bs at ≡ None
none_in p [] [] at h e = refl
none_in p [] (s ∷ ss) at h e = absurd (cc h)
none_in p (b ∷ bs) [] at h e = absurd (none_before (divided p b) (divided_all p bs) h)
none_in p (b ∷ bs) (s ∷ ss) at h e =
    let parts = before (divided p b) (divided_all p bs) (mirror_split s) (map mirror_split ss) h in
    let is = divided_so p b (mirror_split s) parts.first in
    let same : b.at ≡ s.at = sym (position p b) ∙ ap (λ d. d.at) is in
    none_here p bs ss at b s (nat_eq s.at at) refl same (λ f. none_in p bs ss at parts.others f) e

pub some_found : (p : Program) (ss : List Split) (at : ℕ) (split : Split) → divisions p ≡ Ok (map mirror_split ss) → split_at ss at ≡ Some split → IsOf p (program_batches (facts_of p) p) at split
some_found p ss at split h e = found_in p (program_batches (facts_of p) p) ss at split h e

pub none_found : (p : Program) (ss : List Split) (at : ℕ) → divisions p ≡ Ok (map mirror_split ss) → split_at ss at ≡ None → batch_at p at ≡ None
none_found p ss at h e = none_in p (program_batches (facts_of p) p) ss at h e

-- a script that is found can be sent, and counts the inputs
by_place : (t : Bool) (s split : Split) (rest : Option Split) → CanBeSent (mirror_script s.script) → (rest ≡ Some split → CanBeSent (mirror_script split.script)) → cond t (Some s) rest ≡ Some split → CanBeSent (mirror_script split.script)
by_place true s split rest c more h = let found : s ≡ split = cc h in subst (λ x. CanBeSent (mirror_script x.script)) found c
by_place false s split rest c more h = more h

pub found_sent : (ss : List Split) (at : ℕ) (split : Split) → AllCanBeSent ss → split_at ss at ≡ Some split → CanBeSent (mirror_script split.script)
found_sent [] at split c e = absurd (cc e)
found_sent (s ∷ ss) at split c e = by_place (nat_eq s.at at) s split (split_at ss at) c.0 (λ f. found_sent ss at split c.1 f) e

pub found_counted : (p : Program) (ss : List Split) (at : ℕ) (split : Split) → divisions p ≡ Ok (map mirror_split ss) → split_at ss at ≡ Some split → (mirror_split split).script.inputs ≡ length split.inputs
found_counted p ss at split h e =
    let f = some_found p ss at split h e in
    ap (λ d. d.script.inputs) f.is ∙ counted p f.batch ∙ ap (λ d. length d.inputs) (sym f.is)

-- the script of each division can be sent
all_sent_in : (p : Program) → IsLawful p → check_program p ≡ Ok tt → HasNoRefusal p → HasPlaces p → DividedCanBeSent → (bs : List Outermost) (ss : List Split) → ((b : Outermost) → Contains bs b → Contains (program_batches (facts_of p) p) b) → divided_all p bs ≡ Ok (map mirror_split ss) → AllCanBeSent ss
all_sent_in p lawful checked none places law bs [] within h = tt
all_sent_in p lawful checked none places law [] (s ∷ ss) within h = absurd (cc h)
all_sent_in p lawful checked none places law (b ∷ bs) (s ∷ ss) within h =
    let parts = before (divided p b) (divided_all p bs) (mirror_split s) (map mirror_split ss) h in
    let can = law p lawful checked none places b (within b (first_contained b bs)) (mirror_split s) parts.first in
    (record { formed = can.formed; valid = can.valid }, all_sent_in p lawful checked none places law bs ss (λ c is. within c (more_contained b bs c is)) parts.others)

pub all_sent : (p : Program) → IsLawful p → check_program p ≡ Ok tt → HasNoRefusal p → HasPlaces p → DividedCanBeSent → (ss : List Split) → divisions p ≡ Ok (map mirror_split ss) → AllCanBeSent ss
all_sent p lawful checked none places law ss h = all_sent_in p lawful checked none places law (program_batches (facts_of p) p) ss (λ b is. is) h
