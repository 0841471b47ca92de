-- How a reply's frame is taken from a source, and a request's is written to a sink.
use Rattle.std.specs.Prelude.{◌≡◌, ◌<◌, ◌≤◌, ◌+◌, ◌-◌, ℕ, List, [], ◌++◌, length, Result, Ok, Err, cond, nat_lt}
use Rattle.rb_meaning.specs.Replies.{header_length, announced, IsRightBefore, BreaksAt, IsCut}
use Rattle.rb_meaning_frames.specs.Frames.{frame_bytes, request_kind}
use Rattle.rb_base.specs.Devices.{Device, device, failed}
use Rattle.rb_base.specs.Sources.{before_giving, IsAtEnd}
use Rattle.rb_base.specs.Sinks.{with_bytes, WrotePrefix}
use Rattle.rb_base.specs.Links.{IsReplyKind}
use Rattle.rb_base.specs.declared.links.Reply.{Reply}
use Rattle.rb_base.specs.declared.links.LinkStop.{LinkStop}
use Rattle.rb_base.specs.declared.links.LinkStop.TheVariants.{Failed, Frame, Cut, Memory}
use Rattle.rb_base.specs.declared.sources.Source as sources

-- This holds of the source before and after.
abbrev pub Across : {S : Type 0} → sources.Ghosts S → S → S → (Device (List ℕ) → Device (List ℕ) → Type 0) → Type 0
Across g source source' Holds = Holds (device g.told g.faults source) (device g.told g.faults source')

-- The frame of a request was written and nothing else; or a front of it, and there is one fault more; or nothing, for want
-- of memory.
abbrev pub Sends : List ℕ → Result (Unit {0}) LinkStop → Device (List ℕ) → Device (List ℕ) → Type 0
Sends request (Ok u) before after = after ≡ with_bytes before (frame_bytes request_kind request)
Sends request (Err Failed) before after = WrotePrefix (failed before) after (frame_bytes request_kind request)
Sends request (Err (Frame at bytes)) before after = ⊥
Sends request (Err (Cut got bytes)) before after = ⊥
Sends request (Err Memory) before after = after ≡ before

-- how many bytes these lack: of their header, or of the payload that it announces
abbrev pub lacking : List ℕ → ℕ
lacking bytes = cond (nat_lt (length bytes) header_length) (header_length - length bytes) (announced bytes - (length bytes - header_length))

-- The buffer has gained bytes that the source gave: so many, and at most as many as were asked for.
pub record GainsPiece (most count : ℕ) (old new : List ℕ) (before after : Device (List ℕ)) : Type 0 where
  pub bytes : List ℕ
  pub is : new ≡ old ++ bytes
  pub given : before ≡ before_giving bytes after
  pub counted : length bytes ≡ count
  pub within : count ≤ most

-- One read: the buffer has gained what it gave; or the read failed; or there was no memory for it, and none was made.
abbrev pub ReadsPiece : ℕ → List ℕ → List ℕ → Result ℕ LinkStop → Device (List ℕ) → Device (List ℕ) → Type 0
ReadsPiece most old new (Ok count) before after = GainsPiece most count old new before after
ReadsPiece most old new (Err Failed) before after = after ≡ failed before
ReadsPiece most old new (Err (Frame at bytes)) before after = ⊥
ReadsPiece most old new (Err (Cut got bytes)) before after = ⊥
ReadsPiece most old new (Err Memory) before after = after ≡ before

-- One read that brought bytes, of which none is wrong: the buffer has gained them.
pub record GainsMore (most : ℕ) (old new : List ℕ) (before after : Device (List ℕ)) : Type 0 where
  pub bytes : List ℕ
  pub is : new ≡ old ++ bytes
  pub given : before ≡ before_giving bytes after
  pub some : 0 < length bytes
  pub within : length bytes ≤ most
  pub right : IsRightBefore (length new) new

-- One read that brought a wrong byte, behind these.
pub record GainsWrong (at : ℕ) (old all : List ℕ) (before after : Device (List ℕ)) : Type 0 where
  pub bytes : List ℕ
  pub is : all ≡ old ++ bytes
  pub given : before ≡ before_giving bytes after
  pub breaks : BreaksAt at all

-- One read that found the end, behind these bytes.
pub record GainsNone (got : ℕ) (old all : List ℕ) (before after : Device (List ℕ)) : Type 0 where
  pub is : all ≡ old
  pub counted : got ≡ length old
  pub given : before ≡ before_giving [] after
  pub ended : IsAtEnd after.told

-- Whatever was taken, no read failed.
pub record TakesSome (before after : Device (List ℕ)) : Type 0 where
  pub bytes : List ℕ
  pub given : before ≡ before_giving bytes after

-- One read, and a look at what there is then.
abbrev pub StepsOn : ℕ → List ℕ → List ℕ → Result (Unit {0}) LinkStop → Device (List ℕ) → Device (List ℕ) → Type 0
StepsOn most old new (Ok u) before after = GainsMore most old new before after
StepsOn most old new (Err Failed) before after = after ≡ failed before
StepsOn most old new (Err (Frame at all)) before after = GainsWrong at old all before after
StepsOn most old new (Err (Cut got all)) before after = GainsNone got old all before after
StepsOn most old new (Err Memory) before after = TakesSome before after

-- These bytes were taken: they break nothing, and are no more than a frame.
pub record HasTaken (bytes : List ℕ) (before after : Device (List ℕ)) : Type 0 where
  pub given : before ≡ before_giving bytes after
  pub right : IsRightBefore (length bytes) bytes
  pub within : length bytes ≤ header_length + announced bytes

-- The bytes that were taken break the form at this offset.
pub record TakesBroken (at : ℕ) (bytes : List ℕ) (before after : Device (List ℕ)) : Type 0 where
  pub given : before ≡ before_giving bytes after
  pub breaks : BreaksAt at bytes

-- The source ended after so many bytes, which break nothing and are less than a whole frame.
pub record TakesCut (got : ℕ) (bytes : List ℕ) (before after : Device (List ℕ)) : Type 0 where
  pub given : before ≡ before_giving bytes after
  pub counted : got ≡ length bytes
  pub cut : IsCut bytes
  pub ended : IsAtEnd after.told

-- A read failed, before which these bytes were taken: they break nothing and are less than a whole frame.
pub record TakesFault (before after : Device (List ℕ)) : Type 0 where
  pub bytes : List ℕ
  pub between : Device (List ℕ)
  pub given : before ≡ before_giving bytes between
  pub cut : IsCut bytes
  pub is : after ≡ failed between

-- no reply, for this cause
abbrev pub TakesNone : LinkStop → Device (List ℕ) → Device (List ℕ) → Type 0
TakesNone Failed before after = TakesFault before after
TakesNone (Frame at bytes) before after = TakesBroken at bytes before after
TakesNone (Cut got bytes) before after = TakesCut got bytes before after
TakesNone Memory before after = TakesSome before after

-- The bytes that a source had begin with the frame of this reply, and it has the others now.
pub record TakesReply (reply : Reply) (before after : Device (List ℕ)) : Type 0 where
  pub given : before ≡ before_giving (frame_bytes reply.kind reply.payload.items) after
  pub kind_is : IsReplyKind reply.kind

abbrev pub Receives : Result Reply LinkStop → Device (List ℕ) → Device (List ℕ) → Type 0
Receives (Ok reply) before after = TakesReply reply before after
Receives (Err stop) before after = TakesNone stop before after

-- A whole frame was taken, and nothing else.
pub record TakesWhole (bytes : List ℕ) (before after : Device (List ℕ)) : Type 0 where
  pub taken : HasTaken bytes before after
  pub header : header_length ≤ length bytes
  pub whole : length bytes ≡ header_length + announced bytes
