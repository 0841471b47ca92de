-- What is answered to a request in JSON where the service and the request are told.
use Rattle.std.proofs.Common.{◌≡◌, ◌∙◌, List, Option, Ok, ℕ, subst, sym}
use Rattle.rb_base.specs.Devices.{Device}
use Rattle.rb_base.specs.Directories.{read_once}
use Rattle.rb_base.specs.declared.links.Link as links
use Rattle.rb_disk.specs.declared.disk.Disk as disks
use Rattle.rb_json.specs.Requests.{request_in}
use Rattle.rb_meaning_bytes.specs.formats.Messages.{Sent}
use Rattle.rb_top.specs.Answers.{Says}
use Rattle.rb_top.specs.Completeness.{AnswersTold, ToldRequest}
use Rattle.rb_top.specs.Ends.{Ends}
use Rattle.rb_top.specs.JsonRuns as runs
use Rattle.rb_top.specs.JsonRuns.{AnswersAs, AnswersJson, shown_json}
use Rattle.rb_top.specs.Runs.{Served}
use Rattle.rb_top.specs.Scene.{Scene, Outside, once_read}
use Rattle.rb_top.specs.Unusable.{NoService, NoText}
use Rattle.rb_top.specs.Words.{Asking, Wanted}
use Rattle.rb_top.specs.declared.status.Status.{Status}
use Rattle.rb_top.specs.declared.status.Status.TheVariants.{Done}
use Rattle.rb_top.proofs.Complete.{ends_starved, only_starved}
use Rattle.rb_top.proofs.Usable.{OneService, found_is_told, found_once, service_is_usable, text_is_usable}

-- a request that is of the form was answered
of_form : (text : List ℕ) (served : Served) (sent : Sent) (result : Status) (before after : Device (List ℕ)) → request_in text ≡ Ok sent → AnswersJson text served result before after → Ends Done (shown_json served sent) result before after
of_form text served sent result before after reads (runs.refused refusal e said) = absurd (cc (sym reads ∙ e))
of_form text served sent result before after reads (runs.answered other e said) =
    let both : Ok other ≡ Ok sent = sym e ∙ reads in
    let same : other ≡ sent = cc both in
    subst (λ x. Ends Done (shown_json served x) result before after) same said
of_form text served sent result before after reads (runs.starved_answering r o) = ends_starved Done (shown_json served sent) result before after (r, o)

answering_done : OneService → (a : Asking) (other text : List ℕ) (served : Served) (sent : Sent) (result : Status) (before after : Scene) → ToldRequest before.files.told a other text served sent → AnswersAs a result before after → Ends Done (shown_json served sent) result before.out after.out
answering_done one a other text served sent result before after t (runs.no_service tells) =
    ends_starved Done (shown_json served sent) result before.out after.out
    (only_starved (NoService before.files a.service) result before after (service_is_usable one before.files a.service other served t.service) tells)
answering_done one a other text served sent result before after t (runs.no_request found server f i tells) =
    ends_starved Done (shown_json served sent) result before.out after.out
    (only_starved (NoText (read_once before.files) a.request) result (once_read before) after (text_is_usable (read_once before.files) a.request text t.finds t.short) tells)
answering_done one a other text served sent result before after t (runs.answered_from found held server f i holds went files) =
    let same = found_is_told one before.files.told a.service other found served server t.service f i in
    let here = found_once (read_once before.files).told a.request text held t.finds holds.0 in
    of_form text served sent result before.out after.out t.reads
    (subst (λ x. AnswersJson x served result before.out after.out) here (subst (λ x. AnswersJson held x result before.out after.out) same went))

module _ {L D : Type 0} (g : links.Ghosts L) (d : disks.Ghosts D) where
  pub answers_told : OneService → (wanted : Option Wanted) (result : Status) (before after : Outside L) → Says g d wanted result before after → AnswersTold wanted result before.scene after.scene
  answers_told one wanted result before after said = λ a other text served sent w t.
      answering_done one a other text served sent result before.scene after.scene t (subst (λ x. Says g d x result before after) w said).0
