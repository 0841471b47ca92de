-- Bytes are read in one way.
use Rattle.std.proofs.Common.{◌≡◌, ◌≢◌, ℕ, suc, List, [], ◌∷◌, ◌++◌, length, take, drop, refl, sym, ◌∙◌, ap, arith, append_assoc}
use Rattle.std.specs.Int.{w32, from_be_bytes}
use Rattle.std.proofs.lemmas.List.{take_at, drop_at, append_cancel_left}
use Rattle.std.proofs.lemmas.Nat.{from_be_bytes-to_be_bytes_4}
use Rattle.rb_journal.specs.declared.stops.JournalStop.TheVariants.{DiskFault, Closed, Full, NotAJournal, BadRecord, Memory}
use Rattle.rb_journal.specs.Readings.{IsOpened}
use Rattle.rb_journal.specs.Form.{head, IsPayload, ArePayloads, record_of, opened, StandsFor, IsNoJournal, HasBadRecord}

first_of_record : (p a : List ℕ) → IsPayload p → from_be_bytes w32 (take 4 (record_of p ++ a)) ≡ length p
first_of_record p a is = from_be_bytes-to_be_bytes_4 (length p) (omega (arith, is.fits))

-- a record ends where its length says
record_cancel : (p q a b : List ℕ) → IsPayload p → IsPayload q → record_of p ++ a ≡ record_of q ++ b → (p ≡ q) × (a ≡ b)
record_cancel p q a b is_p is_q same =
    let sizes : length p ≡ length q = sym (first_of_record p a is_p) ∙ ap (λ (l : List ℕ). from_be_bytes w32 (take 4 l)) same ∙ first_of_record q b is_q in
    let behind : p ++ a ≡ q ++ b = ap (λ (l : List ℕ). drop 4 l) same in (
      sym (take_at p a (length p) refl) ∙ ap (λ (l : List ℕ). take (length p) l) behind ∙ take_at q b (length p) (sym sizes),
      sym (drop_at p a (length p) refl) ∙ ap (λ (l : List ℕ). drop (length p) l) behind ∙ drop_at q b (length p) (sym sizes),
    )

-- behind a record stands a gate
gate_of : (ps : List (List ℕ)) (g : ℕ) (x : List ℕ) → (gate : ℕ) × (rest : List ℕ) × (opened ps ++ g ∷ x ≡ gate ∷ rest)
gate_of [] g x = (g, x, refl)
gate_of (p ∷ ps) g x = (1, (record_of p ++ opened ps) ++ g ∷ x, refl)

-- the records behind two open gates
next_records : (p q : List ℕ) (ps qs : List (List ℕ)) (g h : ℕ) (x y : List ℕ) → IsPayload p → IsPayload q → opened (p ∷ ps) ++ g ∷ x ≡ opened (q ∷ qs) ++ h ∷ y → (p ≡ q) × (opened ps ++ g ∷ x ≡ opened qs ++ h ∷ y)
next_records p q ps qs g h x y is_p is_q same =
    record_cancel p q (opened ps ++ g ∷ x) (opened qs ++ h ∷ y) is_p is_q
    (sym (append_assoc (record_of p) (opened ps) (g ∷ x)) ∙ ap (λ (l : List ℕ). drop 1 l) same ∙ append_assoc (record_of q) (opened qs) (h ∷ y))

first_is : (g h : ℕ) (x y : List ℕ) → g ∷ x ≡ h ∷ y → g ≡ h
first_is g h x y same = cc

one_list : (ps qs : List (List ℕ)) (g h : ℕ) (x y : List ℕ) → ArePayloads ps → ArePayloads qs → g ≢ 1 → h ≢ 1 → opened ps ++ g ∷ x ≡ opened qs ++ h ∷ y → ps ≡ qs
one_list [] [] g h x y are_p are_q shut_g shut_h same = refl
one_list [] (q ∷ qs) g h x y are_p are_q shut_g shut_h same = absurd (shut_g (first_is g 1 x ((record_of q ++ opened qs) ++ h ∷ y) same))
one_list (p ∷ ps) [] g h x y are_p are_q shut_g shut_h same = absurd (shut_h (first_is h 1 y ((record_of p ++ opened ps) ++ g ∷ x) (sym same)))
one_list (p ∷ ps) (q ∷ qs) g h x y are_p are_q shut_g shut_h same =
    let next = next_records p q ps qs g h x y are_p.0 are_q.0 same in
    let rest : ps ≡ qs = one_list ps qs g h x y are_p.1 are_q.1 shut_g shut_h next.1 in
    ap (λ (l : List ℕ). l ∷ ps) next.0 ∙ ap (λ (l : List (List ℕ)). q ∷ l) rest

abbrev IsBad : List ℕ → Type 0
IsBad behind = (payload : List ℕ) (gate : ℕ) (rest : List ℕ) → IsPayload payload → behind ≡ record_of payload ++ gate ∷ rest → ⊥

-- a record with its next gate behind an open gate is no bad one
not_bad : (p : List ℕ) (ps : List (List ℕ)) (g : ℕ) (x behind : List ℕ) → IsPayload p → IsBad behind → opened (p ∷ ps) ++ g ∷ x ≡ 1 ∷ behind → ⊥
not_bad p ps g x behind is_p bad same =
    let gate = gate_of ps g x in
    bad p gate.0 gate.1 is_p (sym (ap (λ (l : List ℕ). drop 1 l) same) ∙ append_assoc (record_of p) (opened ps) (g ∷ x) ∙ ap (λ (l : List ℕ). record_of p ++ l) gate.2)

never_bad : (ps qs : List (List ℕ)) (g : ℕ) (x behind : List ℕ) → ArePayloads ps → ArePayloads qs → g ≢ 1 → IsBad behind → opened ps ++ g ∷ x ≡ opened qs ++ 1 ∷ behind → ⊥
never_bad [] [] g x behind are_p are_q shut bad same = shut (first_is g 1 x behind same)
never_bad [] (q ∷ qs) g x behind are_p are_q shut bad same = shut (first_is g 1 x ((record_of q ++ opened qs) ++ 1 ∷ behind) same)
never_bad (p ∷ ps) [] g x behind are_p are_q shut bad same = not_bad p ps g x behind are_p.0 bad same
never_bad (p ∷ ps) (q ∷ qs) g x behind are_p are_q shut bad same =
    never_bad ps qs g x behind are_p.1 are_q.1 shut bad (next_records p q ps qs g 1 x behind are_p.0 are_q.0 same).1

one_bad : (ps qs : List (List ℕ)) (x y : List ℕ) → ArePayloads ps → ArePayloads qs → IsBad x → IsBad y → opened ps ++ 1 ∷ x ≡ opened qs ++ 1 ∷ y → length ps ≡ length qs
one_bad [] [] x y are_p are_q bad_x bad_y same = refl
one_bad [] (q ∷ qs) x y are_p are_q bad_x bad_y same = absurd (not_bad q qs 1 y x are_q.0 bad_x (sym same))
one_bad (p ∷ ps) [] x y are_p are_q bad_x bad_y same = absurd (not_bad p ps 1 x y are_p.0 bad_y same)
one_bad (p ∷ ps) (q ∷ qs) x y are_p are_q bad_x bad_y same =
    ap suc (one_bad ps qs x y are_p.1 are_q.1 bad_x bad_y (next_records p q ps qs 1 1 x y are_p.0 are_q.0 same).1)

behind_head : (a b : List ℕ) → head ++ a ≡ head ++ b → a ≡ b
behind_head a b same = append_cancel_left head a b same

pub stands_once : (bytes : List ℕ) (ps qs : List (List ℕ)) → StandsFor bytes ps → StandsFor bytes qs → ps ≡ qs
stands_once bytes ps qs s t = one_list ps qs s.gate t.gate s.behind t.behind s.fit t.fit s.is_closed t.is_closed (behind_head (opened ps ++ s.gate ∷ s.behind) (opened qs ++ t.gate ∷ t.behind) (sym s.is ∙ t.is))

pub stands_is_journal : (bytes : List ℕ) (ps : List (List ℕ)) → StandsFor bytes ps → IsNoJournal bytes → ⊥
stands_is_journal bytes ps s none =
    let gate = gate_of ps s.gate s.behind in
    none gate.0 gate.1 (s.is ∙ ap (λ (l : List ℕ). head ++ l) gate.2)

pub stands_is_whole : (bytes : List ℕ) (ps : List (List ℕ)) (number : ℕ) → StandsFor bytes ps → HasBadRecord bytes number → ⊥
stands_is_whole bytes ps number s b = never_bad ps b.before s.gate s.behind b.behind s.fit b.fit s.is_closed b.bad (behind_head (opened ps ++ s.gate ∷ s.behind) (opened b.before ++ 1 ∷ b.behind) (sym s.is ∙ b.is))

pub bad_is_journal : (bytes : List ℕ) (number : ℕ) → HasBadRecord bytes number → IsNoJournal bytes → ⊥
bad_is_journal bytes number b none =
    let gate = gate_of b.before 1 b.behind in
    none gate.0 gate.1 (b.is ∙ ap (λ (l : List ℕ). head ++ l) gate.2)

pub bad_once : (bytes : List ℕ) (m n : ℕ) → HasBadRecord bytes m → HasBadRecord bytes n → m ≡ n
bad_once bytes m n b d =
    sym b.count ∙ one_bad b.before d.before b.behind d.behind b.fit d.fit b.bad d.bad (behind_head (opened b.before ++ 1 ∷ b.behind) (opened d.before ++ 1 ∷ d.behind) (sym b.is ∙ d.is)) ∙ d.count

-- bytes that stand for payloads are opened, unless a call fails or memory is wanting
pub stands_is_opened : (bytes : List ℕ) (ps : List (List ℕ)) → StandsFor bytes ps → IsOpened bytes
stands_is_opened bytes ps s DiskFault stops = tt
stands_is_opened bytes ps s Memory stops = tt
stands_is_opened bytes ps s Closed stops = stops
stands_is_opened bytes ps s Full stops = stops
stands_is_opened bytes ps s NotAJournal stops = stands_is_journal bytes ps s stops
stands_is_opened bytes ps s (BadRecord number) stops = stands_is_whole bytes ps number s stops
