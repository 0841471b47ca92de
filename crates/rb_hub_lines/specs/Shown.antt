-- The lines of what comes out of a hub, and of the events that it refuses.
use Rattle.std.specs.Prelude.{ℕ, List, [], ◌∷◌, ◌++◌, codes}
use Rattle.std.specs.Fmt.{decimal}
use Rattle.hex.specs.Hex.{encode_lower}
use Rattle.rb_meaning.specs.Shown.{line}
use Rattle.rb_hub.specs.declared.events.End.{End}
use Rattle.rb_hub.specs.declared.events.End.TheVariants as ends
use Rattle.rb_hub.specs.declared.events.HubRefusal.{HubRefusal}
use Rattle.rb_hub.specs.declared.events.HubRefusal.TheVariants as refusals
use Rattle.rb_hub.specs.declared.events.Out.{Out}
use Rattle.rb_hub.specs.declared.events.Out.TheVariants as outs

-- how a session ended
abbrev pub shown_end : End → List ℕ
shown_end ends.Whole = codes "end"
shown_end (ends.Cut at) = codes "cut"
shown_end (ends.BadFrame at) = codes "bad frame"
shown_end ends.Spent = codes "spent"

-- what came out: that a session was opened, the frame of a reply to one, or that it ended after so many requests
abbrev pub shown_out : Out → List ℕ
shown_out (outs.Opened number) = codes "opened " ++ decimal number
shown_out (outs.Reply number frame) = codes "reply " ++ (decimal number ++ (codes " " ++ encode_lower frame))
shown_out (outs.Ended number requests end) =
    codes "ended " ++ (decimal number ++ (codes " requests " ++ (decimal requests ++ (codes " " ++ shown_end end))))

-- the lines of what came out, in order
abbrev pub out_lines : List Out → List ℕ
out_lines [] = []
out_lines (out ∷ outs) = line (shown_out out) ++ out_lines outs

-- why an event was refused
abbrev pub shown_cause : HubRefusal → List ℕ
shown_cause refusals.UnknownSession = codes "unknown session"
shown_cause refusals.Crowded = codes "crowded"
shown_cause refusals.Numbers = codes "numbers"
shown_cause refusals.Over = codes "over"

-- that an event was refused, by its number among all events from 1
abbrev pub shown_refusal : ℕ → HubRefusal → List ℕ
shown_refusal number refusal = codes "event " ++ (decimal number ++ (codes " " ++ shown_cause refusal))
