-- What a script calls its inputs: each has its number, and is a list where its variable is one.
use Rattle.std.proofs.Common.{◌≡◌, refl, sym, ap, ◌∙◌, subst, ℕ, zero, suc, ◌+◌, ◌<◌, ◌≤◌, List, [], ◌∷◌, length, Bool as Truth, true, false, ◌||◌, cond, arith, get_or, Option, Some, None, option_map}
use Rattle.std.specs.List.{AllByRecursion}
use Rattle.std.specs.Str.{bytes_eq}
use Rattle.std.proofs.lemmas.Bool.{eq-eqb, ne_eqb}
use Rattle.std.proofs.lemmas.Slice.Eq.{bytes_eq-Decides}
use Rattle.rb_trees.specs.Named.{first_named, lookup}
use Rattle.rb_trees.specs.Validity.{has}
use Rattle.rb_trees.specs.mirror.Code.{Stmt, Val, Var as Declared, Assign, Run, Print, Throw, If, While, For, Try, Batch}
use Rattle.rb_trees.specs.mirror.Declarations.{Program}
use Rattle.rb_meaning_bytes.specs.formats.FormedScripts.{AreListNumbers}
use Rattle.rb_meaning_types.specs.Names.{is_new}
use Rattle.rb_meaning_flow.specs.declared.forms.PlacedForm.{PlacedForm}
use Rattle.rb_meaning_flow.specs.declared.scopes.Role.{Role}
use Rattle.rb_meaning_flow.specs.declared.scopes.Variable.{Variable}
use Rattle.rb_meaning_flow.specs.Facts.{Facts}
use Rattle.rb_meaning_flow.specs.Scopes.{Scope, variable_named, with_variable, role_in, role_of, is_constant_role, is_list_role, is_portable_role, variable_with, scope_with}
use Rattle.rb_meaning_flow.specs.Portable.{portable}
use Rattle.rb_meaning_flow.specs.Sites.{scope_after}
use Rattle.rb_meaning_split.specs.Refs.{Ref, Root, Input, Var, Refs, with_var}
use Rattle.rb_meaning_split.specs.Inputs.{list_numbers}
use Rattle.rb_meaning_split.specs.Steps.{refs_after_as}
use Rattle.rb_meaning_split.specs.Division.{numbered, first_refs}
use Rattle.rb_law_division.proofs.Known.{else_first, first_more, is_given, IsCalled, called_more}
use Rattle.rb_law_division.proofs.Used.{IsIn}

-- ---- roles

abbrev pub IsGivenIn : Scope → List ℕ → Type 0
IsGivenIn vs q = is_given (role_of vs q) ≡ true

pub list_is_given : (role : Role) → is_list_role role ≡ true → is_given role ≡ true
list_is_given role h = by (is_constant_role role)
  where
    by : (t : Truth) → (t || is_list_role role) ≡ true
    by true = refl
    by false = h

-- This tells rightly whether a variable that is given is a list.
abbrev pub TellsRole : Truth → Role → Type 0
TellsRole t role = cond t (is_list_role role) (is_constant_role role) ≡ true

told_given : (t : Truth) (role : Role) → TellsRole t role → is_given role ≡ true
told_given true role h = by (is_constant_role role)
  where
    by : (c : Truth) → (c || is_list_role role) ≡ true
    by true = refl
    by false = h
told_given false role h = ap (λ c. c || is_list_role role) h

list_told : (role : Role) → is_list_role role ≡ true → is_constant_role role ≡ false
list_told Role.ConstantList h = refl
list_told Role.Constant h = absurd (cc h)
list_told Role.Root h = absurd (cc h)
list_told Role.Row h = absurd (cc h)
list_told Role.Carried h = absurd (cc h)
list_told Role.Plain h = absurd (cc h)

-- of a list it tells that it is one
pub told_list : (t : Truth) (role : Role) → TellsRole t role → is_list_role role ≡ true → t ≡ true
told_list true role h l = refl
told_list false role h l = absurd (cc (sym (list_told role l) ∙ h))

-- of a portable variable it tells that it is none
pub told_portable : (t : Truth) (role : Role) → TellsRole t role → is_portable_role role ≡ true → t ≡ false
told_portable false role h r = refl
told_portable true Role.ConstantList h r = absurd (cc r)
told_portable true Role.Constant h r = absurd (cc h)
told_portable true Role.Root h r = absurd (cc h)
told_portable true Role.Row h r = absurd (cc h)
told_portable true Role.Carried h r = absurd (cc h)
told_portable true Role.Plain h r = absurd (cc h)

-- the role of a given variable stays, whatever is bound behind it
given_stays : (vs : Scope) (name : List ℕ) (role : Role) (at : ℕ) (q : List ℕ) → IsGivenIn vs q → role_of (with_variable vs name role at) q ≡ role_of vs q
given_stays vs name role at q h = ap role_in (first_more (λ v. v.name) vs (record { name = name; role = role; node = at }) q) ∙ by (variable_named vs q) h
  where
    by : (o : Option Variable) → is_given (role_in o) ≡ true → role_in (else_first o (cond (bytes_eq name q) (Some (record { name = name; role = role; node = at })) None)) ≡ role_in o
    by (Some v) k = refl
    by None k = absurd (cc k)

-- ---- what the script calls them

-- An input is a list where its variable is one.
abbrev pub Told : List ℕ → Role → Option Ref → Type 0
Told lists role (Some (Input n)) = TellsRole (has n lists) role
Told lists role _ = Unit {0}

-- These are the names of a script's inputs, of which the ones with these numbers are lists.
pub record Calls (names : List (List ℕ)) (lists : List ℕ) (vs : Scope) (refs : Refs) : Type 0 where
  pub called : (q : List ℕ) → IsIn names q → IsCalled refs q
  pub told : (q : List ℕ) → Told lists (role_of vs q) (lookup refs q)

told_more : (lists : List ℕ) (role : Role) (refs : Refs) (name : List ℕ) (m : ℕ) (q : List ℕ) → Told lists role (lookup refs q) → Told lists role (lookup (with_var refs name m) q)
told_more lists role refs name m q h = subst (λ o. Told lists role (option_map (λ r. r.1) o)) (sym (first_more (λ r. r.0) refs (name, Var m) q)) (by (first_named (λ r. r.0) refs q) (bytes_eq name q) h)
  where
    by : (o : Option (List ℕ × Ref)) (t : Truth) → Told lists role (option_map (λ r. r.1) o) → Told lists role (option_map (λ r. r.1) (else_first o (cond t (Some (name, Var m)) None)))
    by (Some r) t k = k
    by None true k = tt
    by None false k = tt

module _ (names : List (List ℕ)) (lists : List ℕ) where
  -- one more variable of the script
  pub calls_var : (vs : Scope) (refs : Refs) (name : List ℕ) (m : ℕ) → Calls names lists vs refs → Calls names lists vs (with_var refs name m)
  calls_var vs refs name m h = record {
    called = λ q i. let c = h.called q i in (c.0, called_more refs name m q c.0 c.1);
    told = λ q. told_more lists (role_of vs q) refs name m q (h.told q);
  }

  -- one more variable in scope
  pub calls_more : (vs : Scope) (refs : Refs) (name : List ℕ) (role : Role) (at : ℕ) → Calls names lists vs refs → Calls names lists (with_variable vs name role at) refs
  calls_more vs refs name role at h = record { called = h.called; told = λ q. by q (lookup refs q) (h.told q) }
    where
      by : (q : List ℕ) (o : Option Ref) → Told lists (role_of vs q) o → Told lists (role_of (with_variable vs name role at) q) o
      by q (Some (Input n)) k = subst (λ r. TellsRole (has n lists) r) (sym (given_stays vs name role at q (told_given (has n lists) (role_of vs q) k))) k
      by q (Some Root) k = tt
      by q (Some (Var m)) k = tt
      by q None k = tt

  -- behind a statement at a script place
  calls_scope : (f : Facts) (vs : Scope) (refs : Refs) (s : Stmt) → Calls names lists vs refs → Calls names lists (scope_after f [] vs s) refs
  calls_scope f vs refs (Val at name e) h = calls_more vs refs name (cond (portable f vs e) Role.Carried Role.Plain) at h
  calls_scope f vs refs (Declared at name e) h = calls_more vs refs name Role.Plain at h
  calls_scope f vs refs (Assign at a b) h = h
  calls_scope f vs refs (Run at e) h = h
  calls_scope f vs refs (Print at e) h = h
  calls_scope f vs refs (Throw at e) h = h
  calls_scope f vs refs (If at c a b) h = h
  calls_scope f vs refs (While at c a) h = h
  calls_scope f vs refs (For at name e a) h = h
  calls_scope f vs refs (Try at a name b) h = h
  calls_scope f vs refs (Batch at interface root a) h = h

  calls_refs : (p : Program) (form : PlacedForm) (vs : Scope) (refs : Refs) (m : ℕ) (s : Stmt) → Calls names lists vs refs → Calls names lists vs (refs_after_as p form refs m s)
  calls_refs p PlacedForm.CarriedVal vs refs m (Val at name e) h = calls_var vs refs name m h
  calls_refs p form vs refs m s h = h

  pub calls_after : (p : Program) (f : Facts) (form : PlacedForm) (vs : Scope) (refs : Refs) (m : ℕ) (s : Stmt) → Calls names lists vs refs → Calls names lists (scope_after f [] vs s) (refs_after_as p form refs m s)
  calls_after p f form vs refs m s h = calls_refs p form (scope_after f [] vs s) refs m s (calls_scope f vs refs s h)

-- ---- where a batch begins

-- numbers that rise from one on, below a bound
abbrev Rising : ℕ → ℕ → List ℕ → Type 0
Rising k bound [] = Unit {0}
Rising k bound (l ∷ ls) = (k ≤ l) × (l < bound) × Rising (suc l) bound ls

rising_less : (k m bound : ℕ) (ls : List ℕ) → k ≤ m → Rising m bound ls → Rising k bound ls
rising_less k m bound [] l h = tt
rising_less k m bound (x ∷ ls) l h = let first = h.0 in (omega arith, h.1, h.2)

rising_from : (k bound : ℕ) (ls : List ℕ) (i : ℕ) → Rising k bound ls → i < length ls → k ≤ get_or ls i 0
rising_from k bound [] i h l = absurd (omega arith)
rising_from k bound (x ∷ ls) zero h l = h.0
rising_from k bound (x ∷ ls) (suc i) h l = let first = h.0 in let rest = rising_from (suc x) bound ls i h.2 (omega arith) in omega arith

rising_below : (k bound : ℕ) (ls : List ℕ) (i : ℕ) → Rising k bound ls → i < length ls → get_or ls i 0 < bound
rising_below k bound [] i h l = absurd (omega arith)
rising_below k bound (x ∷ ls) zero h l = h.1
rising_below k bound (x ∷ ls) (suc i) h l = rising_below (suc x) bound ls i h.2 (omega arith)

rising_order : (k bound : ℕ) (ls : List ℕ) (i j : ℕ) → Rising k bound ls → i < j → j < length ls → get_or ls i 0 < get_or ls j 0
rising_order k bound [] i j h l m = absurd (omega arith)
rising_order k bound (x ∷ ls) i zero h l m = absurd (omega arith)
rising_order k bound (x ∷ ls) zero (suc j) h l m = rising_from (suc x) bound ls j h.2 (omega arith)
rising_order k bound (x ∷ ls) (suc i) (suc j) h l m = rising_order (suc x) bound ls i j h.2 (omega arith) (omega arith)

not_before : (n k bound : ℕ) (ls : List ℕ) → n < k → Rising k bound ls → has n ls ≡ false
not_before n k bound [] l h = refl
not_before n k bound (x ∷ ls) l h =
    let first = h.0 in
    ap (λ b. b || has n ls) (ne_eqb n x (λ e. omega arith)) ∙ not_before n (suc x) bound ls (omega arith) h.2

module _ (vs : Scope) where
  lists_rise : (n bound : ℕ) (qs : List (List ℕ)) → n + length qs ≤ bound → Rising n bound (list_numbers vs n qs)
  lists_rise n bound [] l = tt
  lists_rise n bound (q ∷ qs) l = by (is_list_role (role_of vs q)) (lists_rise (suc n) bound qs (omega arith))
    where
      by : (t : Truth) → Rising (suc n) bound (list_numbers vs (suc n) qs) → Rising n bound (cond t (n ∷ list_numbers vs (suc n) qs) (list_numbers vs (suc n) qs))
      by true h = (omega arith, omega arith, h)
      by false h = rising_less n (suc n) bound (list_numbers vs (suc n) qs) (omega arith) h

  pub lists_numbered : (qs : List (List ℕ)) → AreListNumbers (length qs) (list_numbers vs 0 qs)
  lists_numbered qs =
      let rise = lists_rise 0 (length qs) qs (omega arith) in
      (λ i j l m. rising_order 0 (length qs) (list_numbers vs 0 qs) i j rise l m, λ i l. rising_below 0 (length qs) (list_numbers vs 0 qs) i rise l)

  -- so told, of an input that has at least this number
  abbrev ToldFrom : ℕ → List ℕ → List ℕ → Option Ref → Type 0
  ToldFrom n lists q (Some (Input k)) = (n ≤ k) × TellsRole (has k lists) (role_of vs q)
  ToldFrom n lists q _ = Unit {0}

  told_first : (n : ℕ) (lists : List ℕ) (q : List ℕ) (t : Truth) → is_list_role (role_of vs q) ≡ t → IsGivenIn vs q → has n lists ≡ false → TellsRole (has n (cond t (n ∷ lists) lists)) (role_of vs q)
  told_first n lists q true e g h = subst (λ (b : Truth). TellsRole (b || has n lists) (role_of vs q)) (sym (eq-eqb n n refl)) e
  told_first n lists q false e g h = subst (λ (b : Truth). TellsRole b (role_of vs q)) (sym h) (by (is_constant_role (role_of vs q)) (is_list_role (role_of vs q)) e g)
    where
      by : (c l : Truth) → l ≡ false → (c || l) ≡ true → c ≡ true
      by true l k g' = refl
      by false l k g' = absurd (cc (sym k ∙ g'))

  told_later : (n : ℕ) (lists : List ℕ) (q : List ℕ) (t : Truth) (o : Option Ref) → ToldFrom (suc n) lists q o → ToldFrom n (cond t (n ∷ lists) lists) q o
  told_later n lists q t (Some (Input k)) h = (omega (arith, h.0), subst (λ (b : Truth). TellsRole b (role_of vs q)) (by t) h.1)
    where
      by : (u : Truth) → has k lists ≡ has k (cond u (n ∷ lists) lists)
      by true = sym (ap (λ b. b || has k lists) (ne_eqb k n (λ e. omega (arith, h.0, e))))
      by false = refl
  told_later n lists q t (Some Root) h = tt
  told_later n lists q t (Some (Var m)) h = tt
  told_later n lists q t None h = tt

  numbered_told : (n : ℕ) (qs : List (List ℕ)) (q : List ℕ) → AllByRecursion (IsGivenIn vs) qs → ToldFrom n (list_numbers vs n qs) q (lookup (numbered n qs) q)
  numbered_told n [] q g = tt
  numbered_told n (a ∷ qs) q g = by (bytes_eq a q) refl (numbered_told (suc n) qs q g.1)
    where
      lists : List ℕ
      lists = list_numbers vs (suc n) qs

      by : (t : Truth) → bytes_eq a q ≡ t → ToldFrom (suc n) lists q (lookup (numbered (suc n) qs) q)
          → ToldFrom n (list_numbers vs n (a ∷ qs)) q (option_map (λ r. r.1) (cond t (Some (a, Input n)) (first_named (λ r. r.0) (numbered (suc n) qs) q)))
      by true e more =
          let same : a ≡ q = (bytes_eq-Decides a q).0 e in
          let bound = suc n + length qs in (
            omega arith,
            subst (λ z. TellsRole (has n (list_numbers vs n (a ∷ qs))) (role_of vs z)) same
                (told_first n lists a (is_list_role (role_of vs a)) refl g.0 (not_before n (suc n) bound lists (omega arith) (lists_rise (suc n) bound qs (omega arith)))),
          )
      by false e more = told_later n lists q (is_list_role (role_of vs a)) (lookup (numbered (suc n) qs) q) more

  weaker : (n : ℕ) (lists : List ℕ) (q : List ℕ) (o : Option Ref) → ToldFrom n lists q o → Told lists (role_of vs q) o
  weaker n lists q (Some (Input k)) h = h.1
  weaker n lists q (Some Root) h = tt
  weaker n lists q (Some (Var m)) h = tt
  weaker n lists q None h = tt

  number_found : (n : ℕ) (qs : List (List ℕ)) (q : List ℕ) → IsIn qs q → IsCalled (numbered n qs) q
  number_found n [] q h = absurd (cc h)
  number_found n (a ∷ qs) q h = by (bytes_eq a q) h (number_found (suc n) qs q)
    where
      by : (t : Truth) → cond t false (is_new q qs) ≡ false → (IsIn qs q → IsCalled (numbered (suc n) qs) q) → (k : ℕ) × (option_map (λ r. r.1) (cond t (Some (a, Input n)) (first_named (λ r. r.0) (numbered (suc n) qs) q)) ≡ Some (Input k))
      by true k more = (n, refl)
      by false k more = more k

  -- What is given isn't the root.
  module _ (root : List ℕ) (is_root : role_of vs root ≡ Role.Root) where
    given_in : (qs : List (List ℕ)) (q : List ℕ) → AllByRecursion (IsGivenIn vs) qs → IsIn qs q → IsGivenIn vs q
    given_in [] q g h = absurd (cc h)
    given_in (a ∷ qs) q g h = by (bytes_eq a q) refl h (given_in qs q g.1)
      where
        by : (t : Truth) → bytes_eq a q ≡ t → cond t false (is_new q qs) ≡ false → (IsIn qs q → IsGivenIn vs q) → IsGivenIn vs q
        by true e k more = subst (IsGivenIn vs) ((bytes_eq-Decides a q).0 e) g.0
        by false e k more = more k

    other : (q : List ℕ) → IsGivenIn vs q → bytes_eq root q ≡ false
    other q g = by (bytes_eq root q) refl
      where
        by : (t : Truth) → bytes_eq root q ≡ t → t ≡ false
        by true e = absurd (cc (sym (ap is_given (sym (ap (role_of vs) ((bytes_eq-Decides root q).0 e)) ∙ is_root)) ∙ g))
        by false e = refl

    abbrev behind_root : (qs : List (List ℕ)) → List ℕ → Truth → Option Ref
    behind_root qs q t = option_map (λ (r : List ℕ × Ref). r.1) (cond t (Some (root, Root)) (first_named (λ r. r.0) (numbered 0 qs) q))

    pub calls_first : (qs : List (List ℕ)) → AllByRecursion (IsGivenIn vs) qs → Calls qs (list_numbers vs 0 qs) vs (first_refs root qs)
    calls_first qs g = record {
      called = λ q i. let c = number_found 0 qs q i in (c.0, ap (behind_root qs q) (other q (given_in qs q g i)) ∙ c.1);
      told = λ q. by q (bytes_eq root q);
    }
      where
        by : (q : List ℕ) (t : Truth) → Told (list_numbers vs 0 qs) (role_of vs q) (behind_root qs q t)
        by q true = tt
        by q false = weaker 0 (list_numbers vs 0 qs) q (lookup (numbered 0 qs) q) (numbered_told 0 qs q g)

-- the role of the root where a batch begins, if no variable from outside has its name
pub root_is : (assigned : List (List ℕ)) (vs : Scope) (root : List ℕ) (at : ℕ) → variable_named vs root ≡ None → role_of (scope_with assigned (with_variable vs root Role.Root at)) root ≡ Role.Root
root_is assigned [] root at h =
    ap (λ (t : Truth). role_in (cond t (Some (variable_with assigned (record { name = root; role = Role.Root; node = at }))) None)) ((bytes_eq-Decides root root).1 refl)
root_is assigned (v ∷ vs) root at h = by (bytes_eq v.name root) h (root_is assigned vs root at)
  where
    by : (t : Truth) → cond t (Some v) (variable_named vs root) ≡ None → (variable_named vs root ≡ None → role_of (scope_with assigned (with_variable vs root Role.Root at)) root ≡ Role.Root)
        → role_in (cond t (Some (variable_with assigned v)) (variable_named (scope_with assigned (with_variable vs root Role.Root at)) root)) ≡ Role.Root
    by true k more = absurd (cc k)
    by false k more = more k
