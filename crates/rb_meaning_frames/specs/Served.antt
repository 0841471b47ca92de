-- What a server answers to requests, one after the other.
use Rattle.std.specs.Prelude.{ℕ, List, [], ◌∷◌, ◌++◌}
use Rattle.rb_trees.specs.declared.services.Object.{Object}
use Rattle.rb_trees.specs.mirror.Services.{Service}
use Rattle.rb_meaning.specs.Answers.{Answers}
use Rattle.rb_meaning_frames.specs.Frames.{frame_bytes}

-- The frames of the replies to these requests, in order: each is answered on the table that the one before it left.
pub data RepliesTo (service : Service) : List Object → List (List ℕ) → List ℕ → List Object → Type 0 where
  no_more : (table : List Object) → RepliesTo service table [] [] table
  one_more : (table between after : List Object) (payload reply : List ℕ) (kind : ℕ) (payloads : List (List ℕ)) (replies : List ℕ)
      → Answers service table payload kind reply between → RepliesTo service between payloads replies after
      → RepliesTo service table (payload ∷ payloads) (frame_bytes kind reply ++ replies) after
