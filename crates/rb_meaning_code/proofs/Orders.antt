-- Two relations in which code keeps what it had: later local states, and no more fuel.
use Rattle.std.proofs.Common.{refl, ◌∙◌, ◌≤◌, arith}
use Rattle.rb_meaning_code.specs.State.{Local}
use Rattle.rb_meaning_code.specs.Laws.{Later}
use Rattle.rb_meaning_code.proofs.Alike.{Order}
use Rattle.rb_meaning_code.proofs.Heaps.{grows_same, grows_on}

pub later_same : (l : Local) → Later l l
later_same l = record { fuel = omega arith; depth = refl; heap = grows_same l.heap }

pub later_on : (a b c : Local) → Later a b → Later b c → Later a c
later_on a b c first second = record {
  fuel = let x = first.fuel in let y = second.fuel in omega arith;
  depth = second.depth ∙ first.depth;
  heap = grows_on a.heap b.heap c.heap first.heap second.heap;
}

pub later : Order Later
later = record {
  same = later_same;
  follows = later_on;
  fuel = λ before after k. k.fuel;
  names = λ l names. record { fuel = omega arith; depth = refl; heap = grows_same l.heap };
  heap = λ l heap grows. record { fuel = omega arith; depth = refl; heap = grows };
  unit = λ l. record { fuel = omega arith; depth = refl; heap = grows_same l.heap };
  call = λ l after names k. record { fuel = k.fuel; depth = refl; heap = k.heap };
}

-- no more fuel than before
abbrev pub KeepsFuel : Local → Local → Type 0
KeepsFuel before after = after.fuel ≤ before.fuel

pub keeps_fuel : Order KeepsFuel
keeps_fuel = record {
  same = λ l. omega arith;
  follows = λ a b c first second. omega arith;
  fuel = λ before after k. k;
  names = λ l names. omega arith;
  heap = λ l heap grows. omega arith;
  unit = λ l. omega arith;
  call = λ l after names k. k;
}
