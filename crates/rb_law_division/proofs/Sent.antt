-- The scripts of divided batches can be sent.
use Rattle.std.proofs.Common.{◌≡◌, refl, subst, ap, ℕ, suc, ◌+◌, ◌≤◌, ◌<◌, List, [], ◌∷◌, length, Bool, true, false, cond, arith, Ok, Err, nat_lt}
use Rattle.std.specs.List.{Contains}
use Rattle.std.proofs.lemmas.Bool.{ltb-false}
use Rattle.rb_trees.specs.CodeSize.{block_size, code_size_of}
use Rattle.rb_trees.specs.Validity.{first}
use Rattle.rb_trees.specs.declared.refusals.Refusal.TheVariants.{TooManyInputs, ScriptTooLarge}
use Rattle.rb_trees.specs.mirror.Declarations.{Program}
use Rattle.rb_meaning_types.specs.Lawful.{IsLawful}
use Rattle.rb_meaning_types.specs.Programs.{check_program}
use Rattle.rb_meaning_flow.specs.Facts.{facts_of}
use Rattle.rb_meaning_flow.specs.Scopes.{assigned_in}
use Rattle.rb_meaning_flow.specs.Outermost.{Outermost, batch_sites, program_batches}
use Rattle.rb_meaning_split.specs.Inputs.{used_in, list_numbers}
use Rattle.rb_meaning_split.specs.Division.{Division, numbered, first_refs, scope_of, inputs_of, division, most_inputs, longest_code, divided}
use Rattle.rb_flow.specs.Program.{HasNoRefusal}
use Rattle.rb_flow.specs.Laws.{AdmittedSendPortable}
use Rattle.rb_flow.proofs.Among.{mapped_to}
use Rattle.rb_law_division.specs.Sendable.{CanBeSent, DividedCanBeSent}
use Rattle.rb_law_division.proofs.Batches.{BatchCarriable, batches_carriable}
use Rattle.rb_law_division.proofs.Requests.{capped_low, request_short}
use Rattle.rb_law_division.proofs.Numbers.{count_within}
use Rattle.rb_law_division.proofs.Used.{uses_in}
use Rattle.rb_law_division.proofs.Calls.{IsGivenIn, calls_first, lists_numbered, root_is}
use Rattle.rb_law_division.proofs.Outer.{block_constant, uses_so}
use Rattle.rb_law_division.proofs.Roots.{root_free}
use Rattle.rb_law_division.proofs.Travels.{block_travels}
use Rattle.rb_law_division.proofs.Valid.{AreThere, stmts_fine}
use Rattle.rb_law_division.proofs.Formed.{AreFormed, stmts_formed}

-- ---- what is divided

record IsDivided (p : Program) (b : Outermost) (d : Division) : Type 0 where
  is : division p b ≡ d
  inputs : length (inputs_of p b) < 256
  code : code_size_of (division p b).script ≤ longest_code

divided_is : (p : Program) (b : Outermost) (d : Division) → divided p b ≡ Ok d → IsDivided p b d
divided_is p b d h = by (nat_lt most_inputs (length (inputs_of p b))) (nat_lt longest_code (code_size_of (division p b).script)) refl refl h
  where
    by : (t u : Bool) → nat_lt most_inputs (length (inputs_of p b)) ≡ t → nat_lt longest_code (code_size_of (division p b).script) ≡ u
        → cond t (Err (TooManyInputs b.at (length (inputs_of p b)))) (cond u (Err (ScriptTooLarge (division p b).at (code_size_of (division p b).script))) (Ok (division p b))) ≡ Ok d → IsDivided p b d
    by true u e f g = absurd (cc g)
    by false true e f g = absurd (cc g)
    by false false e f g = record {
      is = cc g;
      inputs = omega (arith, ltb-false most_inputs (length (inputs_of p b)) e);
      code = ltb-false longest_code (code_size_of (division p b).script) f;
    }

inputs_there : (n count : ℕ) (names : List (List ℕ)) → n + length names ≤ count → AreThere count [] (numbered n names)
inputs_there n count [] h = tt
inputs_there n count (name ∷ names) h = (omega arith, inputs_there (suc n) count names (omega arith))

inputs_formed : (n : ℕ) (names : List (List ℕ)) → n + length names ≤ 256 → AreFormed (numbered n names)
inputs_formed n [] h = tt
inputs_formed n (name ∷ names) h = (omega arith, inputs_formed (suc n) names (omega arith))

divided_sent : AdmittedSendPortable → (p : Program) → IsLawful p → check_program p ≡ Ok tt → HasNoRefusal p → (b : Outermost) → Contains (program_batches (facts_of p) p) b → BatchCarriable b → length (inputs_of p b) < 256
    → code_size_of (division p b).script ≤ longest_code → CanBeSent (division p b).script
unfolding division
divided_sent sends p lawful checked none b is w i c =
    let f = facts_of p in
    let names = inputs_of p b in
    let refs = first_refs b.root names in
    let scope = scope_of b in
    let lists = list_numbers scope 0 names in
    let size : block_size (division p b).script.body ≤ longest_code = capped_low (block_size (division p b).script.body) c in
    let ss = batch_sites f b in
    let is_one = mapped_to (batch_sites f) (program_batches f p) b is in
    let travels = block_travels f ss (λ r e. none r (ss, is_one, e)) (sends p lawful none ss is_one) [] refl scope b.block (λ s e. e) in
    let root = root_is (assigned_in b.block) b.outer b.root b.at (root_free p checked b is) in
    let given = uses_so (IsGivenIn scope) [] (used_in f scope b.block) (block_constant f scope b.block) in
    let calls = calls_first scope b.root root names given in
    record {
      formed = record {
        inputs = i;
        lists = lists_numbered scope names;
        count = omega (arith, count_within (division p b).script.body, size);
        body = stmts_formed p refs (tt, inputs_formed 0 names (omega (arith, i))) scope 0 0 b.block w.0 (omega (arith, size), omega (arith, size));
      };
      valid = ap first (stmts_fine (length names) names lists p 1 refs scope 0 0 b.block w.0 w.1 calls travels (uses_in (used_in f scope b.block)) [] [] tt (tt, inputs_there 0 (length names) names (omega arith)));
      code = c;
      request = λ vs h. request_short (division p b).script i c vs h;
    }

pub sent : AdmittedSendPortable → DividedCanBeSent
sent sends p lawful checked none places b is d e =
    let known = divided_is p b d e in
    subst (λ d'. CanBeSent d'.script) known.is (divided_sent sends p lawful checked none b is (batches_carriable p lawful places b is) known.inputs known.code)
