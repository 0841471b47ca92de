-- Reading a reply step by step.
use Rattle.std.proofs.Common.{◌≡◌, ◌<◌, ◌≤◌, ◌+◌, ◌-◌, inl, inr, refl, ap, sym, ◌∙◌, subst, ℕ, zero, suc, List, [], ◌++◌, length, take, drop, get_or, append_assoc, append-nil, arith, length-append}
use Rattle.std.specs.Prelude.{Option, Some, None, Err}
use Rattle.std.specs.Int.{w64, from_be_bytes}
use Rattle.std.proofs.lemmas.List.{take-append-le, drop-append-le, length-drop}
use Rattle.std.proofs.lemmas.Bool.{cases_lt}
use Rattle.std.proofs.lemmas.Bool.Decides.{nat_tests}
use Rattle.rb_meaning.specs.Replies as reply
use Rattle.rb_meaning.specs.Replies.{header_length, announced, IsCut}
use Rattle.rb_meaning_frames.specs.Frames as frame
use Rattle.rb_base.specs.Devices.{Device}
use Rattle.rb_base.specs.Sources.{told_before, before_giving, IsAtEnd}
use Rattle.rb_session.specs.Fronts.{is_between}
use Rattle.rb_base.specs.declared.links.LinkStop.{LinkStop}
use Rattle.rb_base.specs.declared.links.LinkStop.TheVariants.{Failed, Frame, Cut, Memory}
use Rattle.rb_session.specs.Receiving.{lacking, GainsMore, StepsOn, HasTaken, TakesNone, TakesWhole}

-- ---- which bytes may stand

pub same_stands : (i byte : ℕ) → frame.may_stand (is_between 2 3) i byte ≡ reply.may_stand i byte
same_stands zero byte = refl
same_stands (suc zero) byte = refl
same_stands (suc (suc zero)) zero = refl
same_stands (suc (suc zero)) (suc zero) = refl
same_stands (suc (suc zero)) (suc (suc zero)) = refl
same_stands (suc (suc zero)) (suc (suc (suc zero))) = refl
same_stands (suc (suc zero)) (suc (suc (suc (suc n)))) = grind (arith, nat_tests)
same_stands (suc (suc (suc i))) byte = refl

pub right_reply : (n : ℕ) (bytes : List ℕ) → frame.IsRightBefore (is_between 2 3) n bytes → reply.IsRightBefore n bytes
right_reply n bytes h i less = sym (same_stands i (get_or bytes i 0)) ∙ h i less

pub right_frame : (n : ℕ) (bytes : List ℕ) → reply.IsRightBefore n bytes → frame.IsRightBefore (is_between 2 3) n bytes
right_frame n bytes h i less = same_stands i (get_or bytes i 0) ∙ h i less

pub breaks_reply : (at : ℕ) (bytes : List ℕ) → frame.BreaksAt (is_between 2 3) at bytes → reply.BreaksAt at bytes
breaks_reply at bytes h = record {
  within = h.within;
  wrong = sym (same_stands at (get_or bytes at 0)) ∙ h.wrong;
  before = right_reply at bytes h.before;
}

-- ---- what a source gave

told_twice : (xs ys : List ℕ) (told : Option (List ℕ)) → told_before xs (told_before ys told) ≡ told_before (xs ++ ys) told
told_twice xs ys None = refl
told_twice xs ys (Some left) = ap Some (sym (append_assoc xs ys left))

pub gave_twice : (xs ys : List ℕ) (first between last : Device (List ℕ)) → first ≡ before_giving xs between → between ≡ before_giving ys last → first ≡ before_giving (xs ++ ys) last
gave_twice xs ys first between last h k = h ∙ ap (before_giving xs) k ∙ ap (λ t. record last { told = t }) (told_twice xs ys last.told)

none_before : (told : Option (List ℕ)) → told ≡ told_before [] told
none_before None = refl
none_before (Some left) = refl

pub gave_none : (d : Device (List ℕ)) → d ≡ before_giving [] d
gave_none d = ap (λ t. record d { told = t }) (none_before d.told)

pub ended_so : (before after : Device (List ℕ)) → before ≡ before_giving [] after → IsAtEnd before.told → IsAtEnd after.told
ended_so before after given h = subst IsAtEnd (ap (λ d. d.told) given ∙ sym (none_before after.told)) h

-- ---- how far the frame is

-- the length that is announced doesn't change behind the header
pub announced_on : (old bytes : List ℕ) → header_length ≤ length old → announced (old ++ bytes) ≡ announced old
announced_on old bytes long =
    ap (from_be_bytes w64) (ap (take 8) (drop-append-le 3 old bytes (omega arith)) ∙ take-append-le 8 (drop 3 old) bytes (omega (arith, length-drop 3 old)))

pub lacking_short : (bytes : List ℕ) → length bytes < header_length → lacking bytes ≡ header_length - length bytes
lacking_short bytes less = grind (arith, nat_tests)

pub lacking_long : (bytes : List ℕ) → header_length ≤ length bytes → lacking bytes ≡ announced bytes - (length bytes - header_length)
lacking_long bytes long = grind (arith, nat_tests)

-- some bytes are lacking: less than a whole frame is there
pub is_cut : (bytes : List ℕ) (first last : Device (List ℕ)) → HasTaken bytes first last → 0 < lacking bytes → IsCut bytes
is_cut bytes first last h some = record {
  right = h.right;
  short = elim (cases_lt (length bytes) header_length) [
    | inl less ↦ inl less
    | inr long ↦ inr (let e = lacking_long bytes long in omega arith)
  ];
}

-- none is lacking: a whole frame is there
pub is_whole : (bytes : List ℕ) (first last : Device (List ℕ)) → HasTaken bytes first last → lacking bytes ≤ 0 → TakesWhole bytes first last
is_whole bytes first last h none = record {
  taken = h;
  header = elim (cases_lt (length bytes) header_length) [
    | inl less ↦ let e = lacking_short bytes less in absurd (omega arith)
    | inr long ↦ long
  ];
  whole = elim (cases_lt (length bytes) header_length) [
    | inl less ↦ let e = lacking_short bytes less in absurd (omega arith)
    | inr long ↦ let e = lacking_long bytes long in let w = h.within in omega arith
  ];
}

pub begins : (d : Device (List ℕ)) → HasTaken [] d d
begins d = record { given = gave_none d; right = λ i less. absurd (omega arith); within = omega arith }

-- no more than a frame is there after one read more
within_frame : (old bytes : List ℕ) → length old ≤ header_length + announced old → length bytes ≤ lacking old → length (old ++ bytes) ≤ header_length + announced (old ++ bytes)
within_frame old bytes h few = elim (cases_lt (length old) header_length) [
  | inl less ↦ let e = lacking_short old less in omega (arith, length-append old bytes)
  | inr long ↦ let e = lacking_long old long in let a = announced_on old bytes long in omega (arith, length-append old bytes)
]

pub goes_on : (most : ℕ) (old new : List ℕ) (first between last : Device (List ℕ)) → most ≡ lacking old → HasTaken old first between
    → GainsMore most old new between last → HasTaken new first last
goes_on most old new first between last is h m = record {
  given = gave_twice old m.bytes first between last h.given m.given ∙ ap (λ xs. before_giving xs last) (sym m.is);
  right = m.right;
  within = subst (λ xs. length xs ≤ header_length + announced xs) (sym m.is) (within_frame old m.bytes h.within (subst (λ n. length m.bytes ≤ n) is m.within));
}

pub stops : (most : ℕ) (old new : List ℕ) (stop : LinkStop) (first between last : Device (List ℕ)) → most ≡ lacking old → 0 < most → HasTaken old first between
    → StepsOn most old new (Err stop) between last → TakesNone stop first last
stops most old new Failed first between last is some h m =
    record { bytes = old; between = between; given = h.given; cut = is_cut old first between h (subst (λ n. 0 < n) is some); is = m }
stops most old new (Frame at all) first between last is some h m = record {
  given = gave_twice old m.bytes first between last h.given m.given ∙ ap (λ xs. before_giving xs last) (sym m.is);
  breaks = m.breaks;
}
stops most old new (Cut got all) first between last is some h m = record {
  given = gave_twice old [] first between last h.given m.given ∙ ap (λ xs. before_giving xs last) (append-nil old ∙ sym m.is);
  counted = m.counted ∙ ap length (sym m.is);
  cut = subst IsCut (sym m.is) (is_cut old first between h (subst (λ n. 0 < n) is some));
  ended = m.ended;
}
stops most old new Memory first between last is some h m =
    record { bytes = old ++ m.bytes; given = gave_twice old m.bytes first between last h.given m.given }
