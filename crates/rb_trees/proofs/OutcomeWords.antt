-- How the words on answers go with one another.
use Rattle.std.proofs.Common.{◌≡◌, Option, Some, None, Result, Ok, Err}
use Rattle.rb_trees.specs.Outcome.{Refused, Tells, Refuses, Gives}

refused_on : {Y D : Type 0} (P Q : Result Y D → Type 0) → ((o : Result Y D) → P o → Q o) → (r : Option D) → Refused P r → Refused Q r
refused_on P Q f None h = tt
refused_on P Q f (Some d) h = f (Err d) h

-- what tells an outcome of one relation, tells one of any that follows from it
pub tells_on : {X Y E D : Type 0} (view : X → Y) (refusal : E → Option D) (P Q : Result Y D → Type 0) → ((o : Result Y D) → P o → Q o)
    → (answer : Result X E) → Tells view refusal answer P → Tells view refusal answer Q
tells_on view refusal P Q f (Ok x) h = f (Ok (view x)) h
tells_on view refusal P Q f (Err e) h = refused_on P Q f (refusal e) h

refuses_one : {Y D : Type 0} (P : Result Y D → Type 0) (meant : Result Y D) → ((o : Result Y D) → P o → meant ≡ o) → (r : Option D) → Refused P r → Refuses r meant
refuses_one P meant one None h = tt
refuses_one P meant one (Some d) h = one (Err d) h

-- what tells an outcome of a relation that has one alone, gives it
pub gives_one : {X Y E D : Type 0} (view : X → Y) (refusal : E → Option D) (P : Result Y D → Type 0) (meant : Result Y D) → ((o : Result Y D) → P o → meant ≡ o)
    → (answer : Result X E) → Tells view refusal answer P → Gives view refusal answer meant
gives_one view refusal P meant one (Ok x) h = one (Ok (view x)) h
gives_one view refusal P meant one (Err e) h = refuses_one P meant one (refusal e) h
