-- The code of what a Dial in memory is seen as.
use Rattle.std.specs.Prelude.{◌≡◌, ◌⊎◌, ℕ, List}
use Rattle.std.specs.Coded.{Coded, code_by, coded×, coded⊎, coded_list, coded_ℕ}
use Rattle.std.proofs.Common.{refl, inl, inr}
use Rattle.rb_session.specs.contracts.targets.Target as target_code
use Rattle.rb_session.specs.declared.targets.Target.{Target}
use Rattle.rb_session.specs.declared.any_link.AnyLink.{AnyLink}
use Rattle.rb_session.specs.declared.any_link.AnyLink.TheVariants.{Dialled, Around}
use Rattle.rb_session.specs.MemoryLinks.{LinkInMemory}
use Rattle.rb_session.specs.MemoryDials.{DialInMemory}
use Rattle.rb_session.specs.Codes.{link_code}

module _ {X : Type 0} where
  abbrev held : AnyLink X → X ⊎ LinkInMemory
  held (Dialled x) = inl x
  held (Around l) = inr l

  abbrev holding : X ⊎ LinkInMemory → AnyLink X
  holding (inl x) = Dialled x
  holding (inr l) = Around l

  pub holding_held : (l : AnyLink X) → holding (held l) ≡ l
  holding_held (Dialled x) = refl
  holding_held (Around l) = refl

  abbrev any_code : Coded X → Coded (AnyLink X)
  any_code c = code_by (X ⊎ LinkInMemory) (coded⊎ c link_code) held holding holding_held

  abbrev pub dial_code : Coded X → Coded (DialInMemory X)
  dial_code c =
      code_by (List (Target × X) × (ℕ × (List ℕ × (ℕ × (ℕ × List (AnyLink X))))))
      (coded× (coded_list (coded× target_code.the_row.coded c)) (coded× coded_ℕ (coded× (coded_list coded_ℕ) (coded× coded_ℕ (coded× coded_ℕ (coded_list (any_code c)))))))
      (λ d. (d.waiting, (d.made, (d.failing, (d.faults, (d.out, d.back))))))
      (λ q. record { waiting = q.0; made = q.1.0; failing = q.1.1.0; faults = q.1.1.1.0; out = q.1.1.1.1.0; back = q.1.1.1.1.1 }) (λ _. refl)
