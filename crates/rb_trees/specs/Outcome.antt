-- How an answer stands to its definition. Want of memory is the one free answer: it says nothing.
--
-- Each error type has one function beside its definition's refusals, which maps a variant to the refusal that it
-- tells, and want of memory to None.
use Rattle.std.specs.Prelude.{◌≡◌, Bool, cond, Option, Some, None, Result, Ok, Err}

-- This is an outcome, where there is one.
abbrev pub Refused : {Y D : Type 0} → (Result Y D → Type 0) → Option D → Type 0
Refused Has None = Unit {0}
Refused Has (Some d) = Has (Err d)

-- What is answered is an outcome of which the relation holds: a value, as `view` sees it, or the refusal that the
-- error tells.
abbrev pub Tells : {X Y E D : Type 0} → (X → Y) → (E → Option D) → Result X E → (Result Y D → Type 0) → Type 0
Tells view refusal (Ok x) Has = Has (Ok (view x))
Tells view refusal (Err e) Has = Refused Has (refusal e)

-- What is meant is this refusal, where there is one.
abbrev pub Refuses : {Y D : Type 0} → Option D → Result Y D → Type 0
Refuses None meant = Unit {0}
Refuses (Some d) meant = meant ≡ Err d

-- What is answered is what is meant: Ok exactly where the definition gives a value, which is that of the answer as
-- `view` sees it, and an error that tells the definition's refusal.
abbrev pub Gives : {X Y E D : Type 0} → (X → Y) → (E → Option D) → Result X E → Result Y D → Type 0
Gives view refusal (Ok x) meant = meant ≡ Ok (view x)
Gives view refusal (Err e) meant = Refuses (refusal e) meant

-- one definition and then the next, which sees what the first gave; the first refusal ends it
infixl 10 ◌>>=◌
abbrev pub ◌>>=◌ : {A B D : Type 0} → Result A D → (A → Result B D) → Result B D
(Ok x) >>= f = f x
(Err d) >>= f = Err d

-- the same, where the first gives nothing to see
infixl 10 ◌>>◌
abbrev pub ◌>>◌ : {B D : Type 0} → Result (Unit {0}) D → Result B D → Result B D
(Ok u) >> b = b
(Err d) >> b = Err d

-- a look-up that has to find something
abbrev pub known : {A D : Type 0} → D → Option A → Result A D
known d (Some x) = Ok x
known d None = Err d

-- a test that has to hold
abbrev pub must : {D : Type 0} → Bool → D → Result (Unit {0}) D
must holds d = cond holds (Ok tt) (Err d)

-- the same, with its refusal told in other words
abbrev pub refused_as : {A D F : Type 0} → (D → F) → Result A D → Result A F
refused_as f (Ok x) = Ok x
refused_as f (Err d) = Err (f d)
