-- The replies of whoever keeps requests, and what a request leaves of the disk that asks nothing of it.
use Rattle.std.proofs.Common.{◌≡◌, ℕ, List, ◌++◌, Option, Some, None, sym, ◌∙◌, ap, subst}
use Rattle.rb_disk.specs.Images.{DiskRecord}
use Rattle.rb_trees.specs.mirror.Services.{mirror_service}
use Rattle.rb_meaning.specs.Answers.{forest_kind, refusal_kind, Answers, performs, refuses}
use Rattle.rb_exec.specs.Hosted.{Hosted}
use Rattle.rb_session.specs.Answering.{Performs, Replies}
use Rattle.rb_session.specs.Readings.{Request, sent_of, Reads}
use Rattle.rb_journal.specs.Journals.{SeenJournal, LeavesBeforeOrAfter}
use Rattle.rb_journal.proofs.Appended.{stays}

-- nothing was asked of the disk
pub leaves_same : {D : Type 0} (told : D → Option DiskRecord) (faults : D → ℕ) (journal : SeenJournal D) (request : List ℕ) → LeavesBeforeOrAfter told journal request journal
leaves_same told faults journal request = λ payloads k. stays told faults journal payloads request k

-- of a request that was performed
pub performed_replies : (before after : Hosted) (payload : List ℕ) (r : Option Request) (ready : Request) (old mid new : List ℕ) → r ≡ Some ready → Reads payload r old mid
    → Performs before after (sent_of ready) mid new → Replies before after payload old new forest_kind
performed_replies before after payload r ready old mid new is read done =
    let bytes = done.gains.bytes in
    let was : Reads payload (Some ready) old mid = subst (λ (o : Option Request). Reads payload o old mid) is read in
    record {
      reply = bytes;
      answers = subst (λ t. Answers (mirror_service before.service) before.table payload forest_kind bytes t) (sym done.table) (performs (sent_of ready) bytes was.0 done.gains.is_so);
      is = done.gains.is ∙ ap (λ (xs : List ℕ). xs ++ bytes) was.1;
    }

-- of a request that is refused
pub refused_replies : (host : Hosted) (payload : List ℕ) (r : Option Request) (old new : List ℕ) → r ≡ None → Reads payload r old new → Replies host host payload old new refusal_kind
refused_replies host payload r old new is read =
    let was : Reads payload None old new = subst (λ (o : Option Request). Reads payload o old new) is read in
    let bytes = was.2.bytes in
    record {
      reply = bytes;
      answers = refuses was.0 bytes was.1 was.2.is_so;
      is = was.2.is;
    }
