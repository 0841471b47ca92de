-- Why there is no link through a hub.
use Rattle.std.specs.Prelude.{◌≡◌, Option, None, Some, Result, Ok, Err}
use Rattle.rb_exec.specs.Hosted.{Hosted}
use Rattle.rb_hub.specs.Hubs.{HubSeen}
use Rattle.rb_hub.specs.declared.events.HubRefusal.{HubRefusal}
use Rattle.rb_hub.specs.declared.hub_link.HubLinkStop.{HubLinkStop}
use Rattle.rb_hub.specs.declared.hub_link.HubLinkStop.TheVariants.{Refused, Memory}

-- the refusal that an answer says
abbrev pub refusal_said : {L : Type 0} → Result L HubLinkStop → Option HubRefusal
refusal_said (Ok link) = None
refusal_said (Err (Refused refusal hub)) = Some refusal
refusal_said (Err Memory) = None

-- A refused hub is given back as it was.
abbrev pub GivesBack : HubSeen Hosted → HubLinkStop → Type 0
GivesBack hub (Refused refusal back) = back ≡ hub
GivesBack hub Memory = Unit {0}
