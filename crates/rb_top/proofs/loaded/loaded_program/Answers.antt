use Rattle.std.proofs.Common.{Ok, refl, sym, subst}
use Rattle.std.specs.Prelude.{IsTrue}
use Rattle.std.specs.Result.{is_ok}
use Rattle.rb_trees.specs.mirror.Declarations.{mirror_program}
use Rattle.rb_meaning_bytes.specs.grammar.Sources.{ReadSource}
use Rattle.rb_meaning_types.specs.Programs.{is_typed}
use Rattle.rb_law_division.specs.Sendable.{HasPlaces}
use Rattle.rb_top.specs.Loads.{HoldsText}
use Rattle.rb_top.proofs.Telling.{program_unread, program_not_read, program_not_typed, program_loaded}
use Rattle.rb_top.proofs.loaded.loaded_program.Goals as goal

pub returns-in-Err-clause-loads : goal.returns-in-Err-clause-loads
returns-in-Err-clause-loads g c = program_unread c.args.name.now c.in-Err.stop c.say_unread.result _ _ c.in-Err.ensures c.say_unread.ensures

pub returns-in-Err-parse_program-clause-loads : goal.returns-in-Err-parse_program-clause-loads
returns-in-Err-parse_program-clause-loads g c =
    program_not_read c.args.name.now c.as_slice-source.result.now c.in-Err-parse_program.error c.refuse.result _ _
    (subst (HoldsText _ c.args.name.now) (sym c.as_slice-source.ensures) c.in-Ok.ensures.0) c.in-Err-parse_program.ensures.read c.refuse.ensures c.in-Ok.ensures.1

pub returns-in-Err-check_types-clause-loads : goal.returns-in-Err-check_types-clause-loads
returns-in-Err-check_types-clause-loads g c =
    program_not_typed c.args.name.now c.as_slice-source.result.now (mirror_program c.in-Ok-parse_program.program) c.in-Err-check_types.error c.refuse_types.result _ _
    (subst (HoldsText _ c.args.name.now) (sym c.as_slice-source.ensures) c.in-Ok.ensures.0).0 c.in-Ok-parse_program.ensures.read c.in-Err-check_types.ensures.gives c.refuse_types.ensures c.in-Ok.ensures.1

pub returns-in-Ok-check_types-clause-loads : goal.returns-in-Ok-check_types-clause-loads
returns-in-Ok-check_types-clause-loads g c =
    program_loaded c.args.name.now (record { text = c.in-Ok.text; typed = c.in-Ok-check_types.typed }) _ _ c.in-Ok.ensures.0.0
    (subst (λ q. ReadSource c.in-Ok.text.items (Ok (mirror_program q))) (sym c.in-Ok-check_types.ensures.same)
    (subst (λ t. ReadSource t (Ok (mirror_program c.in-Ok-parse_program.program))) c.as_slice-source.ensures c.in-Ok-parse_program.ensures.read))
    (subst (λ q. IsTrue (is_typed (mirror_program q))) (sym c.in-Ok-check_types.ensures.same) (subst (λ o. IsTrue (is_ok o)) (sym c.in-Ok-check_types.ensures.gives) refl))
    c.in-Ok.ensures.1 refl

pub returns-in-Ok-check_types-clause-places : goal.returns-in-Ok-check_types-clause-places
returns-in-Ok-check_types-clause-places g c =
    let places = c.read_programs_have_places.ensures c.as_slice-source.result.now (mirror_program c.in-Ok-parse_program.program) c.in-Ok-parse_program.ensures.read in
    subst (λ q. HasPlaces (mirror_program q)) (sym c.in-Ok-check_types.ensures.same) places
