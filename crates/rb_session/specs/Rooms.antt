-- Frames whose header is put over the room that was left for it.
use Rattle.std.specs.Prelude.{ℕ, ◌+◌, List, ◌++◌, replicate, take, drop}
use Rattle.rb_meaning.specs.Replies.{header_length}
use Rattle.rb_meaning_frames.specs.Frames.{frame_bytes}

-- the room for a header
abbrev pub room : List ℕ
room = replicate header_length 0

-- the bytes, where those behind a room at a place are made the payload of a frame of this kind
abbrev pub framed_at : ℕ → ℕ → List ℕ → List ℕ
framed_at at kind all = take at all ++ frame_bytes kind (drop (at + header_length) all)
