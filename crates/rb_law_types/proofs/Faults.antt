-- The faults of typed code, and the texts that stand for them.
use Rattle.std.proofs.Common.{◌≡◌, refl, sym, subst, ℕ, zero, suc, ◌≤◌, ◌-◌, List, [], ◌∷◌, arith, inl, inr, Bool, true, false, cond, ◌==◌, Option, Some, None, slice_get, codes}
use Rattle.rb_trees.specs.declared.values.Fault.{Fault}
use Rattle.rb_trees.specs.Outcome.{known}
use Rattle.rb_meaning_types.specs.Values.{IsText}
use Rattle.rb_meaning_code.specs.Faults.{plain_fault, thrown, fault_names, name_or_nothing, fault_name, caught_text}
use Rattle.rb_trees.specs.declared.outcomes.Raised.{Raised}
use Rattle.rb_meaning_types.specs.Declared.{Declarations}
use Rattle.rb_law_types.specs.Kept.{IsRuleFault, IsOwnFault, IsFaultOf, FaultFits, Fair}

pub empty_text : IsText []
empty_text = (([], (refl, refl)), omega arith)

-- a fault without a text
pub plain_rule : (code : ℕ) → 1 ≤ code → code ≤ 11 → IsRuleFault (plain_fault code)
plain_rule code least most = record { least = least; most = most; text = empty_text; plain = inr refl }

pub thrown_rule : (text : List ℕ) → IsText text → IsRuleFault (thrown text)
thrown_rule text h = record { least = omega arith; most = omega arith; text = h; plain = inl refl }

-- a rule's fault is one that code ends by
pub rule_own : (f : Fault) → IsRuleFault f → IsOwnFault f
rule_own f h = record { least = h.least; most = omega (arith, h.most); not_kind = λ e. absurd (omega (arith, e, h.most)); text = h.text; plain = h.plain }

pub plain_own : (code : ℕ) → 1 ≤ code → code ≤ 11 → IsOwnFault (plain_fault code)
plain_own code least most = rule_own (plain_fault code) (plain_rule code least most)

-- a rule's fault, in a program or a service
pub rule_fits : (d : Declarations) (r : Raised) → IsRuleFault r.fault → FaultFits d r
rule_fits d r h = by d.service
  where
    by : (service : Bool) → IsFaultOf service r.fault
    by true = h
    by false = rule_own r.fault h

-- the text of a fault that code ends by
pub text_of_fault : (d : Declarations) (r : Raised) → FaultFits d r → IsText r.fault.text
text_of_fault d r h = by d.service h
  where
    by : (service : Bool) → IsFaultOf service r.fault → IsText r.fault.text
    by true is = is.text
    by false is = is.text

-- the names of faults are texts

abbrev AreTexts : List (List ℕ) → Type 0
AreTexts [] = Unit {0}
AreTexts (t ∷ ts) = IsText t × AreTexts ts

names_are_texts : AreTexts fault_names
unfolding lib.Utf8.encode
names_are_texts = (
  ((codes "DivZero", (refl, refl)), omega arith),
  (
    ((codes "Index", (refl, refl)), omega arith),
    (
      ((codes "TextTooLong", (refl, refl)), omega arith),
      (
        ((codes "ListTooLong", (refl, refl)), omega arith),
        (
          ((codes "HeapFull", (refl, refl)), omega arith),
          (
            ((codes "TooDeep", (refl, refl)), omega arith),
            (
              ((codes "FuelUsed", (refl, refl)), omega arith),
              (
                ((codes "Thrown", (refl, refl)), omega arith),
                (
                  ((codes "NoMethod", (refl, refl)), omega arith),
                  (
                    ((codes "BadArguments", (refl, refl)), omega arith),
                    (
                      ((codes "WrongKind", (refl, refl)), omega arith),
                      (
                        ((codes "Kind", (refl, refl)), omega arith),
                        (((codes "InputTooLarge", (refl, refl)), omega arith), tt),
                      ),
                    ),
                  ),
                ),
              ),
            ),
          ),
        ),
      ),
    ),
  ),
)

named_text : (ts : List (List ℕ)) (n : ℕ) → AreTexts ts → IsText (name_or_nothing (slice_get ts n))
named_text [] n h = empty_text
named_text (t ∷ ts) zero h = h.0
named_text (t ∷ ts) (suc n) h = named_text ts n h.1

pub caught_is_text : (f : Fault) → IsText f.text → IsText (caught_text f)
caught_is_text f h = by (f.code == 8)
  where
    by : (t : Bool) → IsText (cond t f.text (fault_name f))
    by true = h
    by false = named_text fault_names (f.code - 1) names_are_texts

-- checks of rules

abbrev pub SomeIs : {A : Type 0} → (A → Type 0) → Option A → Type 0
SomeIs P (Some a) = P a
SomeIs P None = ⊥

pub known_fair : {A : Type 0} (P : A → Type 0) (f : Fault) (o : Option A) → SomeIs P o → Fair P (known f o)
known_fair P f (Some a) h = h
known_fair P f None h = absurd h

pub some_is : {A : Type 0} (P : A → Type 0) (o : Option A) (a : A) → o ≡ Some a → P a → SomeIs P o
some_is P o a e h = subst (SomeIs P) (sym e) h
