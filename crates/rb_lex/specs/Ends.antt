-- How a text literal ends, as the code finds it.
use Rattle.std.specs.Prelude.{ℕ, ◌+◌, ◌<◌, Bool, true, false, cond, ◌==◌, List, [], ◌∷◌, Option, None, Some}
use Rattle.rb_meaning_bytes.specs.tokens.Bytes.{makes_escape}
use Rattle.rb_lex.specs.declared.literals.End.{End}
use Rattle.rb_lex.specs.declared.literals.End.TheVariants.{Closes, Breaks, Never}

-- The end, so many bytes and so many bytes of the value later.
abbrev pub later : ℕ → ℕ → End → End
later n size (Closes m more) = Closes (n + m) (size + more)
later n size (Breaks m) = Breaks (n + m)
later n size Never = Never

-- A bad escape stands here, which counts if a quote closes the literal.
abbrev pub broken : End → End
broken (Closes m more) = Breaks 0
broken (Breaks m) = Breaks 0
broken Never = Never

-- The end, from the bytes behind the first quote on; the flag says that the next byte is escaped.
unfoldable pub text_end : Bool → List ℕ → End
text_end escaped [] = Never
text_end true (b ∷ bs) = later 1 0 (text_end false bs)
text_end false (b ∷ bs) =
    cond (b == 34) (Closes 0 0)
    (cond (b == 10) Never
    (cond (b == 92) (cond (makes_escape bs) (later 1 1 (text_end true bs)) (broken (later 1 1 (text_end false bs))))
    (later 1 1 (text_end false bs))))

-- The end at a quote, with the first bad escape so far.
abbrev pub end_at_quote : Option ℕ → ℕ → ℕ → End
end_at_quote None n size = Closes n size
end_at_quote (Some at) n size = Breaks at

abbrev pub first_bad : Option ℕ → ℕ → Option ℕ
first_bad None n = Some n
first_bad (Some at) n = Some at

-- What ends so many bytes later, with the first bad escape before it.
abbrev pub found_later : Option ℕ → ℕ → ℕ → End → End
found_later bad n size Never = Never
found_later None n size (Closes m more) = Closes (n + m) (size + more)
found_later None n size (Breaks m) = Breaks (n + m)
found_later (Some at) n size (Closes m more) = Breaks at
found_later (Some at) n size (Breaks m) = Breaks at

-- The end is within so many bytes.
abbrev pub EndsWithin : End → ℕ → Type 0
EndsWithin (Closes n size) count = n < count
EndsWithin (Breaks n) count = n < count
EndsWithin Never count = Unit {0}
