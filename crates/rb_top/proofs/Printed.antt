-- What a sink tells while a text is printed piece by piece.
use Rattle.std.proofs.Common.{◌≡◌, ◌<◌, ℕ, ◌+◌, List, [], ◌++◌, length, take, drop, ap, sym, ◌∙◌, refl, subst, arith, append_assoc, take-append-drop}
use Rattle.std.proofs.Math.Seq.{take-length}
use Rattle.std.proofs.lemmas.List.{append-nil}
use Rattle.std.specs.Prelude.{Result, Ok, Err}
use Rattle.std.specs.List.{position_or_len}
use Rattle.rb_meaning.specs.Place.{is_line_feed}
use Rattle.rb_base.specs.Devices.{Device, failed}
use Rattle.rb_base.specs.Sinks.{with_bytes, WrotePrefix}
use Rattle.rb_base.proofs.Fronts.{HasFront}
use Rattle.rb_base.proofs.Pieces.{bytes_none, both_whole, fails_next, prefix_front, prefix_after}
use Rattle.rb_top.specs.Ends as ends
use Rattle.rb_top.specs.Ends.{Ends}
use Rattle.rb_top.specs.Printing.{first_line_length, stopped, Prints}
use Rattle.rb_top.specs.declared.printing.PrintStop.{PrintStop}
use Rattle.rb_top.specs.declared.printing.PrintStop.TheVariants as print
use Rattle.rb_top.specs.declared.status.Status.{Status}

-- nothing of a piece was written
pub wrote_none : (old : Device (List ℕ)) (text : List ℕ) → WrotePrefix old old text
wrote_none old text = record { count = 0; within = omega arith; is = sym (bytes_none old) }

-- bytes and a fault are one after the other
stopped_later : (stop : PrintStop) (old : Device (List ℕ)) (a : List ℕ) → stopped stop (with_bytes old a) ≡ with_bytes (stopped stop old) a
stopped_later print.WriteFault old a = refl
stopped_later print.Memory old a = refl

-- the first piece stopped
pub stops_first : (stop : PrintStop) (old new : Device (List ℕ)) (a b : List ℕ) → WrotePrefix (stopped stop old) new a → WrotePrefix (stopped stop old) new (a ++ b)
stops_first stop old new a b w = prefix_front (stopped stop old) new a b w

-- a piece behind a whole one stopped
pub stops_next : (stop : PrintStop) (old mid new : Device (List ℕ)) (a b : List ℕ) → mid ≡ with_bytes old a → WrotePrefix (stopped stop mid) new b → WrotePrefix (stopped stop old) new (a ++ b)
stops_next stop old mid new a b e w = prefix_after (stopped stop old) (stopped stop mid) new a b (ap (stopped stop) e ∙ stopped_later stop old a) w

-- a piece was printed whole, and the next one so
pub prints_next : {A : Type 0} (r : Result A PrintStop) (old mid new : Device (List ℕ)) (a b : List ℕ) → mid ≡ with_bytes old a → Prints b r mid new → Prints (a ++ b) r old new
prints_next (Ok x) old mid new a b e h = both_whole old mid new a b e h
prints_next (Err stop) old mid new a b e h = stops_next stop old mid new a b e h

-- a line feed stands there first
pub line_to : (text : List ℕ) (count : ℕ) → count < length text → position_or_len is_line_feed text ≡ count → count + 1 ≡ first_line_length text
line_to text count h e = rw e (omega arith)

-- no line feed stands anywhere
pub line_all : (text : List ℕ) → position_or_len is_line_feed text ≡ length text → length text ≡ first_line_length text
line_all text e = rw e (omega arith)

-- a text is a front of it and the rest
pub split_so : (n : ℕ) (text front back : List ℕ) → front ≡ take n text → back ≡ drop n text → text ≡ front ++ back
split_so n text front back f b = sym (take-append-drop n text) ∙ ap (λ x. x ++ drop n text) (sym f) ∙ ap (λ y. front ++ y) (sym b)

-- one line more was written
pub line_written : (old new newer : Device (List ℕ)) (text rest line more : List ℕ) → HasFront old new text rest → rest ≡ line ++ more → newer ≡ with_bytes new line → HasFront old newer text more
line_written old new newer text rest line more h e w = record {
  front = h.front ++ line;
  whole = h.whole ∙ ap (λ xs. h.front ++ xs) e ∙ sym (append_assoc h.front line more);
  is = both_whole old new newer h.front line h.is w;
}

-- or it wasn't
pub line_failed : (old new newer : Device (List ℕ)) (text rest line more : List ℕ) → HasFront old new text rest → rest ≡ line ++ more → WrotePrefix (failed new) newer line → WrotePrefix (failed old) newer text
line_failed old new newer text rest line more h e w =
    subst (WrotePrefix (failed old) newer) (sym h.whole)
    (fails_next old new newer h.front rest h.is (subst (WrotePrefix (failed new) newer) (sym e) (prefix_front (failed new) newer line more w)))

-- a text that was said behind what was said so far
pub ends_behind : (status : Status) (lines text : List ℕ) (result : Status) (before so_far after : Device (List ℕ)) → so_far ≡ with_bytes before lines → Ends status text result so_far after → Ends status (lines ++ text) result before after
ends_behind status lines text result before so_far after e (ends.whole r w) = ends.whole r (both_whole before so_far after lines text e w)
ends_behind status lines text result before so_far after e (ends.cut r w) = ends.cut r (prefix_after (failed before) (failed so_far) after lines text (ap failed e) w)
ends_behind status lines text result before so_far after e (ends.starved r w) = ends.starved r (prefix_after before so_far after lines text e w)

-- a line more stopped
pub line_stopped : (stop : PrintStop) (old new newer : Device (List ℕ)) (text rest line more : List ℕ) → HasFront old new text rest → rest ≡ line ++ more → WrotePrefix (stopped stop new) newer line → WrotePrefix (stopped stop old) newer text
line_stopped stop old new newer text rest line more h e w =
    subst (WrotePrefix (stopped stop old) newer) (sym (h.whole ∙ ap (λ r. h.front ++ r) e))
    (stops_next stop old new newer h.front (line ++ more) h.is (stops_first stop new newer line more w))

-- nothing is left to write
pub all_written : (old new : Device (List ℕ)) (text rest : List ℕ) → HasFront old new text rest → rest ≡ [] → new ≡ with_bytes old text
all_written old new text rest h e = h.is ∙ ap (with_bytes old) (sym (append-nil h.front) ∙ ap (λ r. h.front ++ r) (sym e) ∙ sym h.whole)

-- all of a text is a front of it
pub wrote_all : (old new : Device (List ℕ)) (text : List ℕ) → new ≡ with_bytes old text → WrotePrefix old new text
wrote_all old new text e = record { count = length text; within = omega arith; is = e ∙ ap (with_bytes old) (sym (take-length text)) }
