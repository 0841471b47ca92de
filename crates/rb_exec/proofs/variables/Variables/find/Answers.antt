-- The places lead to the binding whose value is the latest.
use Rattle.std.proofs.Common.{sym, ap, ◌∙◌, slice_get}
use Rattle.std.specs.Option.{option_map}
use Rattle.rb_meaning_code.specs.ScriptRun.{latest}
use Rattle.rb_exec.specs.Places.{place_at}
use Rattle.rb_exec.proofs.Guided.{find_placed}
use Rattle.rb_exec.proofs.variables.Variables.find.Goals as goal

pub returns-in-Some : goal.returns-in-Some
returns-in-Some c =
    c.value_at.ensures
    ∙ ap (λ xs. option_map (λ b. b.value) (slice_get xs c.in-Some.place)) c.as_slice.ensures.value
    ∙ sym (ap (λ vs. latest vs c.args.number) (sym c.self.view_is)
    ∙ find_placed c.self.inside.bindings.items (place_at c.self.inside.places) c.args.number c.in-Some.place c.self.invariant (sym c.find.ensures ∙ c.in-Some.is))
