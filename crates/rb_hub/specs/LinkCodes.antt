-- The code of what a link through a hub is seen as.
use Rattle.std.specs.Prelude.{ℕ, Bool, List}
use Rattle.std.specs.Coded.{Coded, code_by, coded×, coded_list, coded_ℕ, coded_bool}
use mathlib.Core.Path.{refl}
use Rattle.rb_trees.specs.declared.services.Object.{Object}
use Rattle.rb_meaning.specs.Links.{Pair}
use Rattle.rb_exec.specs.Hosted.{Hosted}
use Rattle.rb_exec.specs.Codes.{host_code}
use Rattle.rb_session.specs.Codes.{pair_code, coded_tables}
use Rattle.rb_hub.specs.contracts.events.Event as event_code
use Rattle.rb_hub.specs.declared.events.Event.{Event}
use Rattle.rb_hub.specs.Codes.{hub_code}
use Rattle.rb_hub.specs.Hubs.{HubSeen}
use Rattle.rb_hub.specs.HubLinks.{HubLinkSeen}

-- what a link keeps beside its hub and its number there
abbrev pub Noted : Type 0
Noted = List (List Event) × (List Pair × (List (List Object) × (List (List Object) × (ℕ × Bool))))

abbrev pub hub_link_code : Coded HubLinkSeen
hub_link_code =
    code_by (HubSeen Hosted × (ℕ × Noted))
    (coded× (hub_code host_code) (coded× coded_ℕ (coded× (coded_list (coded_list event_code.the_row.coded)) (coded× (coded_list pair_code) (coded× coded_tables (coded× coded_tables (coded× coded_ℕ coded_bool)))))))
    (λ l. (l.hub, (l.number, (l.others, (l.pairs, (l.found, (l.left, (l.made, l.spent))))))))
    (λ q. record { hub = q.0; number = q.1.0; others = q.1.1.0; pairs = q.1.1.1.0; found = q.1.1.1.1.0; left = q.1.1.1.1.1.0; made = q.1.1.1.1.1.1.0; spent = q.1.1.1.1.1.1.1 }) (λ _. refl)
