-- What came out of a hub, for the one who serves a session of it.
use Rattle.std.specs.Prelude.{ℕ, List, [], ◌∷◌, ◌++◌, Option, None, Some}
use Rattle.rb_meaning_frames.specs.Histories.{Replied}
use Rattle.rb_hub.specs.declared.events.Out.{Out}
use Rattle.rb_hub.specs.declared.events.Out.TheVariants.{Opened, Reply, Ended}
use Rattle.rb_hub.specs.declared.events.End.{End}

-- how a session ended, if one did
abbrev pub end_in : List Out → Option End
end_in [] = None
end_in (Opened number ∷ outs) = end_in outs
end_in (Reply number frame ∷ outs) = end_in outs
end_in (Ended number requests end ∷ outs) = Some end

-- the frame of a reply, and of nothing else
abbrev pub bytes_of : Out → List ℕ
bytes_of (Opened number) = []
bytes_of (Reply number frame) = frame
bytes_of (Ended number requests end) = []

-- the frames of the replies, one behind the other
abbrev pub bytes_in : List Out → List ℕ
bytes_in [] = []
bytes_in (out ∷ outs) = bytes_of out ++ bytes_in outs

-- the frames of these replies, one behind the other
abbrev pub frames_of : List Replied → List ℕ
frames_of [] = []
frames_of (reply ∷ replies) = reply.frame ++ frames_of replies
