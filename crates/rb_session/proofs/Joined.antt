-- What was appended is the server's reply.
use Rattle.std.proofs.Common.{◌≡◌, sym, ap, ◌∙◌, subst, ℕ, List, ◌++◌}
use Rattle.std.specs.Prelude.{Option, None, Some}
use Rattle.rb_trees.specs.mirror.Services.{mirror_service}
use Rattle.rb_meaning.specs.Answers.{forest_kind, refusal_kind, Answers, performs, refuses}
use Rattle.rb_exec.specs.Hosted.{Hosted}
use Rattle.rb_session.specs.Answering.{Performs, Replies}
use Rattle.rb_session.specs.Readings.{Request, sent_of, Reads}

-- of a script that was performed
pub performed_replies : (before after : Hosted) (payload : List ℕ) (r : Option Request) (ready : Request) (old mid new : List ℕ) → r ≡ Some ready → Reads payload r old mid
    → Performs before after (sent_of ready) mid new → Replies before after payload old new forest_kind
performed_replies before after payload r ready old mid new is read done =
    let bytes = done.gains.bytes in
    let was : Reads payload (Some ready) old mid = subst (λ x. Reads payload x old mid) is read in
    record {
      reply = bytes;
      answers = subst (λ t. Answers (mirror_service before.service) before.table payload forest_kind bytes t) (sym done.table) (performs (sent_of ready) bytes was.0 done.gains.is_so);
      is = done.gains.is ∙ ap (λ xs. xs ++ bytes) was.1;
    }

-- of any other payload, where the host stays
pub refused_replies : (host : Hosted) (payload : List ℕ) (r : Option Request) (old new : List ℕ) → r ≡ None → Reads payload r old new → Replies host host payload old new refusal_kind
refused_replies host payload r old new is read =
    let was : Reads payload None old new = subst (λ x. Reads payload x old new) is read in
    let bytes = was.2.bytes in
    record {
      reply = bytes;
      answers = refuses was.0 bytes was.1 was.2.is_so;
      is = was.2.is;
    }
