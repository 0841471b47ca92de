-- Where the disk of a name stands, which place is empty, and what a store in memory tells of both.
use Rattle.std.proofs.Common.{◌≡◌, refl, ap, sym, ◌∙◌, subst, ℕ, suc, ◌+◌, List, [], ◌∷◌, length, get_or, set, Bool, true, false, cond, Option, Some, None, arith}
use Rattle.std.specs.Prelude.{not, nat_lt, is_none, is_some, position, map, option_map, MatchOption, ◌==◌}
use Rattle.std.specs.Str.{bytes_eq}
use Rattle.std.specs.List.{list_any, position_or_len}
use Rattle.rb_base.specs.Devices.{Device}
use Rattle.rb_disk.specs.Images.{DiskRecord}
use Rattle.rb_disk.specs.MemoryDisks.{DiskInMemory, seen_device}
use Rattle.rb_disk.specs.Storing.{Places, disk_under, emptied, filled, is_out, next_disk, Storing}
use Rattle.rb_disk.specs.MemoryStores.{told_places, StoreInMemory, storing_of, next_in_memory}
use Rattle.rb_base.specs.Counts.{risen}

one_on : (m : ℕ) → suc m ≡ 1 + m
one_on m = omega arith

decide : (b : Bool) (m : ℕ) (No : Type 0) (Yes : ℕ → Type 0) → (b ≡ true → Yes m) → (b ≡ false → No) → MatchOption (cond b (Some m) None) No Yes
decide true m No Yes found missing = found refl
decide false m No Yes found missing = missing refl

module _ {A : Type 0} (name : List ℕ) where
  abbrev has : List ℕ × Option A → Bool
  has p = bytes_eq p.0 name

  -- The first place of the name is the one at n.
  pub record IsUnder (ps : Places A) (n : ℕ) : Type 0 where
    pub disk : (d : List ℕ × Option A) → disk_under ps name ≡ (get_or ps n d).1
    pub rest : (d : List ℕ × Option A) → set ps n ((get_or ps n d).0, None) ≡ emptied ps name

  -- No place has the name.
  pub record IsUnderNone (ps : Places A) : Type 0 where
    pub disk : disk_under ps name ≡ None
    pub rest : emptied ps name ≡ ps

  here : (p : List ℕ × Option A) (ps : Places A) → has p ≡ true → IsUnder (p ∷ ps) 0
  here p ps is = record {
    disk = λ d. ap (λ (b : Bool). cond b p.1 (disk_under ps name)) is;
    rest = λ d. sym (ap (λ (b : Bool). cond b ((p.0, None) ∷ ps) (p ∷ emptied ps name)) is);
  }

  behind : (p : List ℕ × Option A) (ps : Places A) (n : ℕ) → has p ≡ false → IsUnder ps n → IsUnder (p ∷ ps) (suc n)
  behind p ps n is h = record {
    disk = λ d. ap (λ (b : Bool). cond b p.1 (disk_under ps name)) is ∙ h.disk d;
    rest = λ d. ap (λ (l : Places A). p ∷ l) (h.rest d) ∙ sym (ap (λ (b : Bool). cond b ((p.0, None) ∷ ps) (p ∷ emptied ps name)) is);
  }

  one_more : (b : Bool) (p : List ℕ × Option A) (ps : Places A) (m : ℕ) → has p ≡ b → (nat_lt m (length ps) ≡ true → IsUnder ps m)
      → nat_lt (cond (not b) (1 + m) 0) (suc (length ps)) ≡ true → IsUnder (p ∷ ps) (cond (not b) (1 + m) 0)
  one_more true p ps m is h lt = here p ps is
  one_more false p ps m is h lt = subst (λ (n : ℕ). IsUnder (p ∷ ps) n) (one_on m) (behind p ps m is (h (grind (arith, lt))))

  under : (ps : Places A) → nat_lt (position_or_len has ps) (length ps) ≡ true → IsUnder ps (position_or_len has ps)
  under [] lt = absurd (grind (arith, lt))
  under (p ∷ ps) lt = one_more (has p) p ps (position_or_len has ps) refl (under ps) lt

  one_more_none : (b : Bool) (p : List ℕ × Option A) (ps : Places A) (m : ℕ) → has p ≡ b → (nat_lt m (length ps) ≡ false → IsUnderNone ps)
      → nat_lt (cond (not b) (1 + m) 0) (suc (length ps)) ≡ false → IsUnderNone (p ∷ ps)
  one_more_none true p ps m is h lt = absurd (grind (arith, lt))
  one_more_none false p ps m is h lt =
      let r = h (grind (arith, lt)) in
      record {
        disk = ap (λ (b : Bool). cond b p.1 (disk_under ps name)) is ∙ r.disk;
        rest = ap (λ (b : Bool). cond b ((p.0, None) ∷ ps) (p ∷ emptied ps name)) is ∙ ap (λ (l : Places A). p ∷ l) r.rest;
      }

  under_none : (ps : Places A) → nat_lt (position_or_len has ps) (length ps) ≡ false → IsUnderNone ps
  under_none [] lt = record { disk = refl; rest = refl }
  under_none (p ∷ ps) lt = one_more_none (has p) p ps (position_or_len has ps) refl (under_none ps) lt

  at_place : (ps : Places A) (r : Option ℕ) → r ≡ position has ps → MatchOption r (IsUnderNone ps) (λ n. IsUnder ps n)
  at_place ps r is =
      subst (λ (o : Option ℕ). MatchOption o (IsUnderNone ps) (λ n. IsUnder ps n)) (sym is)
      (decide (nat_lt (position_or_len has ps) (length ps)) (position_or_len has ps) (IsUnderNone ps) (λ n. IsUnder ps n) (under ps) (under_none ps))

  pub under_some : (ps : Places A) (r : Option ℕ) (n : ℕ) → r ≡ position has ps → r ≡ Some n → IsUnder ps n
  under_some ps r n is some = subst (λ (o : Option ℕ). MatchOption o (IsUnderNone ps) (λ k. IsUnder ps k)) some (at_place ps r is)

  pub under_no : (ps : Places A) (r : Option ℕ) → r ≡ position has ps → r ≡ None → IsUnderNone ps
  under_no ps r is none = subst (λ (o : Option ℕ). MatchOption o (IsUnderNone ps) (λ k. IsUnder ps k)) none (at_place ps r is)

module _ {A : Type 0} where
  abbrev lacks : List ℕ × Option A → Bool
  lacks p = is_none p.1

  -- The first empty place is the one at n.
  pub record IsEmptyAt (ps : Places A) (n : ℕ) : Type 0 where
    pub is : is_out ps ≡ true
    pub rest : (disk : A) (d : List ℕ × Option A) → set ps n ((get_or ps n d).0, Some disk) ≡ filled ps disk

  one_more_empty : (p : List ℕ × Option A) (ps : Places A) (m : ℕ) → (nat_lt m (length ps) ≡ true → IsEmptyAt ps m)
      → nat_lt (cond (not (lacks p)) (1 + m) 0) (suc (length ps)) ≡ true → IsEmptyAt (p ∷ ps) (cond (not (lacks p)) (1 + m) 0)
  one_more_empty (name, None) ps m h lt = record { is = refl; rest = λ disk d. refl }
  one_more_empty (name, Some other) ps m h lt =
      let r = h (grind (arith, lt)) in
      subst (λ (n : ℕ). IsEmptyAt ((name, Some other) ∷ ps) n) (one_on m) (record { is = r.is; rest = λ disk d. ap (λ (l : Places A). (name, Some other) ∷ l) (r.rest disk d) })

  empty_at : (ps : Places A) → nat_lt (position_or_len lacks ps) (length ps) ≡ true → IsEmptyAt ps (position_or_len lacks ps)
  empty_at [] lt = absurd (grind (arith, lt))
  empty_at (p ∷ ps) lt = one_more_empty p ps (position_or_len lacks ps) (empty_at ps) lt

  one_more_full : (p : List ℕ × Option A) (ps : Places A) (m : ℕ) → (nat_lt m (length ps) ≡ false → is_out ps ≡ false)
      → nat_lt (cond (not (lacks p)) (1 + m) 0) (suc (length ps)) ≡ false → is_out (p ∷ ps) ≡ false
  one_more_full (name, None) ps m h lt = absurd (grind (arith, lt))
  one_more_full (name, Some other) ps m h lt = h (grind (arith, lt))

  all_full : (ps : Places A) → nat_lt (position_or_len lacks ps) (length ps) ≡ false → is_out ps ≡ false
  all_full [] lt = refl
  all_full (p ∷ ps) lt = one_more_full p ps (position_or_len lacks ps) (all_full ps) lt

  at_empty : (ps : Places A) (r : Option ℕ) → r ≡ position lacks ps → MatchOption r (is_out ps ≡ false) (λ n. IsEmptyAt ps n)
  at_empty ps r is =
      subst (λ (o : Option ℕ). MatchOption o (is_out ps ≡ false) (λ n. IsEmptyAt ps n)) (sym is)
      (decide (nat_lt (position_or_len lacks ps) (length ps)) (position_or_len lacks ps) (is_out ps ≡ false) (λ n. IsEmptyAt ps n) (empty_at ps) (all_full ps))

  pub empty_some : (ps : Places A) (r : Option ℕ) (n : ℕ) → r ≡ position lacks ps → r ≡ Some n → IsEmptyAt ps n
  empty_some ps r n is some = subst (λ (o : Option ℕ). MatchOption o (is_out ps ≡ false) (λ k. IsEmptyAt ps k)) some (at_empty ps r is)

  pub empty_no : (ps : Places A) (r : Option ℕ) → r ≡ position lacks ps → r ≡ None → is_out ps ≡ false
  empty_no ps r is none = subst (λ (o : Option ℕ). MatchOption o (is_out ps ≡ false) (λ k. IsEmptyAt ps k)) none (at_empty ps r is)

  pub empty_is_out : (ps : Places A) (r : Option ℕ) → r ≡ position lacks ps → is_some r ≡ is_out ps
  empty_is_out ps None is = sym (empty_no ps None is refl)
  empty_is_out ps (Some n) is = sym (empty_some ps (Some n) n is refl).is

empty_first : {A : Type 0} (b : Bool) (p : List ℕ × Option A) (ps : Places A) (name : List ℕ) → (disk_under ps name ≡ None → emptied ps name ≡ ps)
    → cond b p.1 (disk_under ps name) ≡ None → cond b ((p.0, None) ∷ ps) (p ∷ emptied ps name) ≡ p ∷ ps
empty_first {A} true p ps name h none = ap (λ (o : Option A). (p.0, o) ∷ ps) (sym none)
empty_first {A} false p ps name h none = ap (λ (l : Places A). p ∷ l) (h none)

-- where no disk stands under the name, none is taken out
pub emptied_none : {A : Type 0} (ps : Places A) (name : List ℕ) → disk_under ps name ≡ None → emptied ps name ≡ ps
emptied_none [] name none = refl
emptied_none (p ∷ ps) name none = empty_first (bytes_eq p.0 name) p ps name (emptied_none ps name) none

told_first : (b : Bool) (p : List ℕ × Option DiskInMemory) (ps : Places DiskInMemory) (name : List ℕ) → disk_under (told_places ps) name ≡ option_map seen_device (disk_under ps name)
    → cond b (option_map seen_device p.1) (disk_under (told_places ps) name) ≡ option_map seen_device (cond b p.1 (disk_under ps name))
told_first true p ps name h = refl
told_first false p ps name h = h

-- what is told of the disk of a name
pub told_under : (ps : Places DiskInMemory) (name : List ℕ) → disk_under (told_places ps) name ≡ option_map seen_device (disk_under ps name)
told_under [] name = refl
told_under (p ∷ ps) name = told_first (bytes_eq p.0 name) p ps name (told_under ps name)

told_rest : (b : Bool) (p : List ℕ × Option DiskInMemory) (ps : Places DiskInMemory) (name : List ℕ) → emptied (told_places ps) name ≡ told_places (emptied ps name)
    → cond b ((p.0, None) ∷ told_places ps) ((p.0, option_map seen_device p.1) ∷ emptied (told_places ps) name) ≡ told_places (cond b ((p.0, None) ∷ ps) (p ∷ emptied ps name))
told_rest true p ps name h = refl
told_rest false p ps name h = ap (λ (l : Places (Device DiskRecord)). (p.0, option_map seen_device p.1) ∷ l) h

pub told_emptied : (ps : Places DiskInMemory) (name : List ℕ) → emptied (told_places ps) name ≡ told_places (emptied ps name)
told_emptied [] name = refl
told_emptied (p ∷ ps) name = told_rest (bytes_eq p.0 name) p ps name (told_emptied ps name)

pub told_filled : (ps : Places DiskInMemory) (disk : DiskInMemory) → filled (told_places ps) (seen_device disk) ≡ told_places (filled ps disk)
told_filled [] disk = refl
told_filled ((name, None) ∷ ps) disk = refl
told_filled ((name, Some other) ∷ ps) disk = ap (λ (l : Places (Device DiskRecord)). (name, Some (seen_device other)) ∷ l) (told_filled ps disk)

pub told_out : (ps : Places DiskInMemory) → is_out (told_places ps) ≡ is_out ps
told_out [] = refl
told_out ((name, None) ∷ ps) = refl
told_out ((name, Some other) ∷ ps) = told_out ps

next_first : (listed out told : Bool) (found : Option DiskInMemory) (under : Option (Device DiskRecord)) → told ≡ out → under ≡ option_map seen_device found
    → cond listed None (cond told None under) ≡ option_map seen_device (cond listed None (cond out None found))
next_first true out told found under same is = refl
next_first false true told found under same is = ap (λ (b : Bool). cond b None under) same
next_first false false told found under same is = ap (λ (b : Bool). cond b None under) same ∙ is

-- what is told of the disk that the next call finds
pub told_next : (s : StoreInMemory) (name : List ℕ) → next_disk (storing_of s) name ≡ option_map seen_device (next_in_memory s name)
told_next s name =
    next_first (list_any (λ n. n == risen s.opens) s.failing) (is_out s.places) (is_out (told_places s.places)) (disk_under s.places name) (disk_under (told_places s.places) name)
    (told_out s.places) (told_under s.places name)

-- a call that isn't listed finds no disk while one is out, and else the one under the name
pub finds_none : (s : StoreInMemory) (name : List ℕ) → list_any (λ n. n == risen s.opens) s.failing ≡ false → is_out s.places ≡ true → None ≡ next_in_memory s name
finds_none s name listed out =
    sym (ap (λ (b : Bool). cond b None (cond (is_out s.places) None (disk_under s.places name))) listed ∙ ap (λ (b : Bool). cond b None (disk_under s.places name)) out)

pub finds_disk : (s : StoreInMemory) (name : List ℕ) → list_any (λ n. n == risen s.opens) s.failing ≡ false → is_out s.places ≡ false → disk_under s.places name ≡ next_in_memory s name
finds_disk s name listed out =
    sym (ap (λ (b : Bool). cond b None (cond (is_out s.places) None (disk_under s.places name))) listed ∙ ap (λ (b : Bool). cond b None (disk_under s.places name)) out)

comes_first : (b : Bool) (p : List ℕ × Option (Device DiskRecord)) (ps : Places (Device DiskRecord)) (name : List ℕ) (found disk : Device DiskRecord) → bytes_eq p.0 name ≡ b → is_out (p ∷ ps) ≡ false
    → cond b p.1 (disk_under ps name) ≡ Some found → (is_out ps ≡ false → disk_under ps name ≡ Some found → disk_under (filled (emptied ps name) disk) name ≡ Some disk)
    → disk_under (filled (cond b ((p.0, None) ∷ ps) (p ∷ emptied ps name)) disk) name ≡ Some disk
comes_first true p ps name found disk is out there h = ap (λ (b : Bool). cond b (Some disk) (disk_under ps name)) is
comes_first false (own, None) ps name found disk is out there h = absurd (grind (arith, out))
comes_first false (own, Some other) ps name found disk is out there h =
    ap (λ (b : Bool). cond b (Some other) (disk_under (filled (emptied ps name) disk) name)) is ∙ h out there

comes_back : (ps : Places (Device DiskRecord)) (name : List ℕ) (found disk : Device DiskRecord) → is_out ps ≡ false → disk_under ps name ≡ Some found
    → disk_under (filled (emptied ps name) disk) name ≡ Some disk
comes_back [] name found disk out there = absurd (grind (arith, there))
comes_back (p ∷ ps) name found disk out there = comes_first (bytes_eq p.0 name) p ps name found disk refl out there (comes_back ps name found disk)

opened_from : (listed out : Bool) (under : Option (Device DiskRecord)) (found : Device DiskRecord) → cond listed None (cond out None under) ≡ Some found → (out ≡ false) × (under ≡ Some found)
opened_from true out under found is = absurd (grind (arith, is))
opened_from false true under found is = absurd (grind (arith, is))
opened_from false false under found is = (refl, is)

-- a disk that was opened stands in its place again after it came back
pub stands_again : (s : Storing) (name : List ℕ) (found disk : Device DiskRecord) → next_disk s name ≡ Some found → disk_under (filled (emptied s.places name) disk) name ≡ Some disk
stands_again s name found disk next =
    let open_is = opened_from (list_any (λ n. n == risen s.opens) s.failing) (is_out s.places) (disk_under s.places name) found next in
    comes_back s.places name found disk open_is.0 open_is.1

out_first : (b : Bool) (p : List ℕ × Option DiskInMemory) (ps : Places DiskInMemory) (name : List ℕ) (disk : DiskInMemory) → cond b p.1 (disk_under ps name) ≡ Some disk
    → (disk_under ps name ≡ Some disk → is_out (emptied ps name) ≡ true) → is_out (cond b ((p.0, None) ∷ ps) (p ∷ emptied ps name)) ≡ true
out_first true p ps name disk there h = refl
out_first false (own, None) ps name disk there h = refl
out_first false (own, Some other) ps name disk there h = h there

out_when_emptied : (ps : Places DiskInMemory) (name : List ℕ) (disk : DiskInMemory) → disk_under ps name ≡ Some disk → is_out (emptied ps name) ≡ true
out_when_emptied [] name disk there = absurd (grind (arith, there))
out_when_emptied (p ∷ ps) name disk there = out_first (bytes_eq p.0 name) p ps name disk there (out_when_emptied ps name disk)

found_from : (listed out : Bool) (under : Option DiskInMemory) (found : DiskInMemory) → cond listed None (cond out None under) ≡ Some found → under ≡ Some found
found_from true out under found is = absurd (grind (arith, is))
found_from false true under found is = absurd (grind (arith, is))
found_from false false under found is = is

-- a disk that was taken out is out
pub out_after : (s : StoreInMemory) (name : List ℕ) (disk : DiskInMemory) → next_in_memory s name ≡ Some disk → is_out (told_places (emptied s.places name)) ≡ true
out_after s name disk next =
    told_out (emptied s.places name)
    ∙ out_when_emptied s.places name disk (found_from (list_any (λ n. n == risen s.opens) s.failing) (is_out s.places) (disk_under s.places name) disk next)
