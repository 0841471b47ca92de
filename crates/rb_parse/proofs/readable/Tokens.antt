-- What each token of a source tells, where it breaks no limit: its own value, and what is open behind it.
use Rattle.std.proofs.Common.{◌≡◌, ℕ, pos, negsuc, ◌-◌, ◌≤◌, ◌==◌, min, Bool, true, false, cond, List, [], ◌∷◌, ◌++◌, length, refl, ap, sym, subst, ◌∙◌, Some, None, arith, ltb, ltb-true, ltb-false, IsUtf8, eqb-true}
use Rattle.std.proofs.lemmas.Bool.{eqb-false}
use Rattle.std.proofs.Math.Nat.{min-eq_left}
use Rattle.rb_trees.specs.Kinds as k
use Rattle.rb_trees.specs.Kinds.{is_kind}
use Rattle.rb_trees.specs.Spelling.{IsName}
use Rattle.rb_trees.specs.declared.tokens.Token.{Token}
use Rattle.rb_trees.specs.declared.tokens.TokenKind.{TokenKind}
use Rattle.rb_trees.specs.declared.tokens.TokenKind.TheVariants as kinds
use Rattle.rb_trees.specs.declared.values.Value.TheVariants as value
use Rattle.rb_trees.specs.declared.values.Value.{Value, out-Value}
use Rattle.rb_trees.specs.declared.values.Value.TheOpen.{Value-F}
use Rattle.rb_trees.specs.declared.values.Value.TheViews.{out-roll-Value}
use Rattle.rb_meaning_bytes.specs.tokens.Forms.{Form}
use Rattle.rb_meaning_bytes.specs.tokens.Faults.{WithinLimits, greatest_number}
use Rattle.rb_meaning_bytes.specs.tokens.Values.{number_value, int_of}
use Rattle.rb_meaning_bytes.specs.tokens.Lists.{TokensBetween, AllWithinLimits, is_minus}
use Rattle.rb_meaning_bytes.specs.grammar.Values.{slice, name_of, number_of, text_of}
use Rattle.rb_meaning_bytes.specs.grammar.Limits.{Nesting, after, too_deep, broken_lists, broken}
use Rattle.rb_meaning_types.specs.Values.{IsText}
use Rattle.rb_parse.proofs.readable.Trees.{IsReadInt, IsReadForm, IsReadLiteral}
use Rattle.rb_parse.proofs.lawful.Utf8.{literal_utf8}
use Rattle.rb_parse.proofs.readable.States.{Room}

-- what a token of the kind tells of its slice; the flag says that the token before it is a minus
abbrev pub Tells : List ℕ → Bool → TokenKind → Token → Type 0
Tells source minus kinds.Name t = IsName (name_of source t)
Tells source minus kinds.Number t = number_value (slice source t) ≤ greatest_number minus
Tells source minus kinds.TextLit t = IsText (text_of source t)
Tells source minus (kinds.Keyword place) t = Unit {0}
Tells source minus (kinds.Sign place) t = Unit {0}

greatest : (minus : Bool) → greatest_number minus ≤ 9223372036854775808
greatest true = omega arith
greatest false = omega arith

-- what a token tells, it tells behind a minus too
pub tells_behind : (source : List ℕ) (minus : Bool) (kind : TokenKind) (t : Token) → Tells source minus kind t → Tells source true kind t
tells_behind source minus kinds.Name t h = h
tells_behind source minus kinds.Number t h = omega (arith, h, greatest minus)
tells_behind source minus kinds.TextLit t h = h
tells_behind source minus (kinds.Keyword place) t h = tt
tells_behind source minus (kinds.Sign place) t h = tt

-- Each token breaks no limit, and tells what one of its kind does.
abbrev pub AllFit : List ℕ → Nesting → List Token → Type 0
AllFit source n [] = Unit {0}
AllFit source n (t ∷ ts) = Room (after n t.kind) × Tells source (is_minus n.last) t.kind t × AllFit source (after n t.kind) ts

-- the state behind tokens
abbrev pub state_after : Nesting → List Token → Nesting
state_after n [] = n
state_after n (t ∷ ts) = state_after (after n t.kind) ts

pub state_behind : (n : Nesting) (ts us : List Token) → state_after n (ts ++ us) ≡ state_after (state_after n ts) us
state_behind n [] us = refl
state_behind n (t ∷ ts) us = state_behind (after n t.kind) ts us

pub fit_front : (source : List ℕ) (n : Nesting) (ts us : List Token) → AllFit source n (ts ++ us) → AllFit source n ts
fit_front source n [] us h = tt
fit_front source n (t ∷ ts) us h = (h.0, h.1, fit_front source (after n t.kind) ts us h.2)

pub fit_back : (source : List ℕ) (n : Nesting) (ts us : List Token) → AllFit source n (ts ++ us) → AllFit source (state_after n ts) us
fit_back source n [] us h = h
fit_back source n (t ∷ ts) us h = fit_back source (after n t.kind) ts us h.2

pub room_after : (source : List ℕ) (n : Nesting) (ts : List Token) → Room n → AllFit source n ts → Room (state_after n ts)
room_after source n [] r h = r
room_after source n (t ∷ ts) r h = room_after source (after n t.kind) ts h.0 h.2

room_of : (n : Nesting) → too_deep n ≡ false → Room n
room_of n h = go (ltb 64 n.blocks) (ltb 64 n.types) (ltb 200 n.marks) refl refl refl h
  where
    go : (a b c : Bool) → ltb 64 n.blocks ≡ a → ltb 64 n.types ≡ b → ltb 200 n.marks ≡ c → cond a true (cond b true c) ≡ false → Room n
    go true b c e f g h = cc
    go false true c e f g h = cc
    go false false true e f g h = cc
    go false false false e f g h = record { blocks = ltb-false 64 n.blocks e; types = ltb-false 64 n.types f; marks = ltb-false 200 n.marks g }

-- none of the tokens is the word behind which only lists count
abbrev pub NoObject : List Token → Type 0
NoObject [] = Unit {0}
NoObject (t ∷ ts) = (is_kind t.kind k.keyword_object ≡ false) × NoObject ts

-- a token that breaks no limit, and the tokens behind it
record First (n : Nesting) (t : Token) (ts : List Token) : Type 0 where
  room : Room (after n t.kind)
  more : broken (after n t.kind) ts ≡ None

first_of_all : (n : Nesting) (t : Token) (ts : List Token) → is_kind t.kind k.keyword_object ≡ false → broken n (t ∷ ts) ≡ None → First n t ts
first_of_all n t ts other h = go (is_kind t.kind k.keyword_object) (too_deep (after n t.kind)) other refl h
  where
    go : (o e : Bool) → o ≡ false → too_deep (after n t.kind) ≡ e → cond o (broken_lists 0 ts) (cond e (Some (length (t ∷ ts))) (broken (after n t.kind) ts)) ≡ None → First n t ts
    go true e i j h = cc
    go false true i j h = cc
    go false false i j h = record { room = room_of (after n t.kind) j; more = h }

tells_by : (source : List ℕ) (t : Token) (kind : TokenKind) (minus : Bool) → IsUtf8 source → Form kind (slice source t) → WithinLimits minus kind (slice source t) → Tells source minus kind t
tells_by source t kinds.Name minus u f l = f
tells_by source t kinds.Number minus u f l = l
tells_by source t kinds.TextLit minus u f l = (literal_utf8 source t.start (t.end - t.start) u f, l)
tells_by source t (kinds.Keyword place) minus u f l = tt
tells_by source t (kinds.Sign place) minus u f l = tt

pub all_fit : (source : List ℕ) (n : Nesting) (from to : ℕ) (tokens : List Token) → IsUtf8 source → TokensBetween source from tokens to → AllWithinLimits (is_minus n.last) source tokens → NoObject tokens → broken n tokens ≡ None → AllFit source n tokens
all_fit source n from to [] u b l o h = tt
all_fit source n from to (t ∷ ts) u b l o h =
    let a = first_of_all n t ts o.0 h in
    (a.room, tells_by source t t.kind (is_minus n.last) u b.1.begins.formed l.0, all_fit source (after n t.kind) t.end to ts u b.2 l.1 o.1 a.more)

-- Each token tells what one of its kind does, be it behind a minus or not.
abbrev pub AllTell : List ℕ → List Token → Type 0
AllTell source [] = Unit {0}
AllTell source (t ∷ ts) = Tells source true t.kind t × AllTell source ts

pub tell_front : (source : List ℕ) (ts us : List Token) → AllTell source (ts ++ us) → AllTell source ts
tell_front source [] us h = tt
tell_front source (t ∷ ts) us h = (h.0, tell_front source ts us h.1)

pub tell_back : (source : List ℕ) (ts us : List Token) → AllTell source (ts ++ us) → AllTell source us
tell_back source [] us h = h
tell_back source (t ∷ ts) us h = tell_back source ts us h.1

pub all_tell : (source : List ℕ) (minus : Bool) (from to : ℕ) (tokens : List Token) → IsUtf8 source → TokensBetween source from tokens to → AllWithinLimits minus source tokens → AllTell source tokens
all_tell source minus from to [] u b l = tt
all_tell source minus from to (t ∷ ts) u b l =
    (tells_behind source minus t.kind t (tells_by source t t.kind minus u b.1.begins.formed l.0), all_tell source (is_minus t.kind) t.end to ts u b.2 l.1)

large : (v : ℕ) → (v == 9223372036854775808) ≡ false → v ≤ 9223372036854775808 → v ≤ 9223372036854775807
large v e h = by (ltb 9223372036854775807 v) refl
  where
    by : (b : Bool) → ltb 9223372036854775807 v ≡ b → v ≤ 9223372036854775807
    by true k = let i = ltb-true 9223372036854775807 v k in absurd (eqb-false v 9223372036854775808 e (omega (arith, i)))
    by false k = ltb-false 9223372036854775807 v k

int_by : (minus same : Bool) (v : ℕ) → (v == 9223372036854775808) ≡ same → v ≤ greatest_number minus → IsReadInt minus (cond same (negsuc 9223372036854775807) (pos v))
int_by true true v e h = refl
int_by true false v e h = large v e h
int_by false true v e h = let i = eqb-true v 9223372036854775808 e in absurd (omega (arith, i))
int_by false false v e h = h

literal : (minus : Bool) (v : Value-F Value) (x : Value) → out-Value x ≡ v → IsReadForm minus v → IsReadLiteral minus x
literal minus v x e h = subst (IsReadForm minus) (sym e) h

pub read_int : (source : List ℕ) (minus : Bool) (t : Token) → Tells source minus kinds.Number t → IsReadLiteral minus (value.Int (number_of source t))
read_int source minus t h =
    let v = number_value (slice source t) in
    let g : v ≤ 9223372036854775808 = omega (arith, h, greatest minus) in
    let same : min v 9223372036854775808 ≡ v = min-eq_left g in
    let i : IsReadInt minus (int_of v) = int_by minus (v == 9223372036854775808) v refl h in
    literal minus (Value-F.Int (number_of source t)) (value.Int (number_of source t)) (ap out-Value (sym (value.rolls-Int (number_of source t))) ∙ out-roll-Value (Value-F.Int (number_of source t))) (subst (λ w. IsReadInt minus (int_of w)) (sym same) i)

pub read_bool : (minus : Bool) (truth : Bool) → IsReadLiteral minus (value.Bool truth)
read_bool minus truth = literal minus (Value-F.Bool truth) (value.Bool truth) (ap out-Value (sym (value.rolls-Bool truth)) ∙ out-roll-Value (Value-F.Bool truth)) tt

pub read_text : (minus : Bool) (text : List ℕ) → IsText text → IsReadLiteral minus (value.Text text)
read_text minus text h = literal minus (Value-F.Text text) (value.Text text) (ap out-Value (sym (value.rolls-Text text)) ∙ out-roll-Value (Value-F.Text text)) h
