-- The code of what a hub is seen as.
use Rattle.std.specs.Prelude.{ℕ, Bool, List}
use Rattle.std.specs.Coded.{Coded, code_by, coded×, coded_list, coded_ℕ, coded_bool}
use mathlib.Core.Path.{refl}
use Rattle.rb_hub.specs.contracts.seats.Seat as seat_code
use Rattle.rb_hub.specs.declared.seats.Seat.{Seat}
use Rattle.rb_hub.specs.Hubs.{HubSeen}

abbrev pub hub_code : {A : Type 0} → Coded A → Coded (HubSeen A)
hub_code {A} a =
    code_by (A × (ℕ × (List Seat × Bool))) (coded× a (coded× coded_ℕ (coded× (coded_list seat_code.the_row.coded) coded_bool)))
    (λ h. (h.answers, (h.opened, (h.seats, h.over)))) (λ q. record { answers = q.0; opened = q.1.0; seats = q.1.1.0; over = q.1.1.1 }) (λ _. refl)
