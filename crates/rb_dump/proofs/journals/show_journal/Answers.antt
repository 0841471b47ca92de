-- What is told of the records is told of the journal.
use Rattle.std.proofs.Common.{◌≡◌, ◌+◌, drop, IfOk, ap, sym, ◌∙◌, subst}
use Rattle.rb_dump.specs.Journals.{TellsRecords, is_none}
use Rattle.rb_dump.proofs.Recorded.{journal_told}
use Rattle.rb_dump.proofs.journals.show_journal.Goals as goal

pub returns-in_ok-add-in-Some-clause-verdict : goal.returns-in_ok-add-in-Some-clause-verdict
returns-in_ok-add-in-Some-clause-verdict c =
    let walk = c.args.walk.now in
    let next = c.add.new.self in
    let all : c.rest.result.now ≡ walk.bytes = c.rest.ensures ∙ ap (λ n. drop n walk.bytes) c.requires in
    let four : next.at ≡ 4 = c.in_ok-add-in-Some.ensures.at ∙ ap (λ n. n + 4) c.requires in
    let told = subst (λ l. IfOk c.show_records.result (TellsRecords next.at (drop next.at l))) c.in_ok-add-in-Some.ensures.bytes c.show_records.ensures.verdict in
    journal_told walk.bytes c.in-Some.field-0.0 c.in-Some.field-0.1.now next.at c.show_records.result (sym all ∙ c.in-Some.ensures.found) four told

pub returns-in_ok-show_unread-in-None-clause-verdict : goal.returns-in_ok-show_unread-in-None-clause-verdict
returns-in_ok-show_unread-in-None-clause-verdict c =
    let walk = c.args.walk.now in
    let all : c.rest.result.now ≡ walk.bytes = c.rest.ensures ∙ ap (λ n. drop n walk.bytes) c.requires in
    is_none walk.bytes (λ gate behind e. c.in-None.ensures.none gate behind (all ∙ e))
