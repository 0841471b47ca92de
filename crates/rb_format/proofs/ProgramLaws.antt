-- Programs that are laid out: by the laws of printed programs, what is printed alike is the same but for positions.
use Rattle.std.proofs.Common.{◌≡◌, ℕ, ◌≤◌, List, length, Ok, sym, ap, subst, ◌∙◌}
use Rattle.rb_trees.specs.mirror.Declarations.{Program}
use Rattle.rb_trees.specs.printing.Unplaced.{unplaced}
use Rattle.rb_meaning_bytes.specs.tokens.Texts.{longest_text}
use Rattle.rb_meaning_bytes.specs.grammar.Sources.{ReadSource}
use Rattle.rb_parse.specs.Outcomes.{AtMostOne}
use Rattle.rb_parse.specs.ReadsBack.{PrintsShort, ReadsBack}
use Rattle.rb_format.specs.Formats.{HasSlashes, LaysOutProgram}
use Rattle.rb_format.specs.Prints.{PrintsProgram}
use Rattle.rb_format.specs.Woven.{IsWoven}

-- the laws that are rested on

abbrev pub Backward : Type 0
Backward = (source : List ℕ) → (program : Program) → ReadSource source (Ok program) → PrintsShort program → ReadsBack program

abbrev pub Alone : Type 0
Alone = (source : List ℕ) → AtMostOne (ReadSource source)

-- what is printed is read, as the same program but for positions
abbrev ReadsAs : Program → List ℕ → Type 0
ReadsAs program text = (again : Program) × ReadSource text (Ok again) × (unplaced again ≡ unplaced program)

read_back : Backward → (source text : List ℕ) (p : PrintsProgram source text) → ReadsAs p.program text
read_back backward source text p =
    let Short : List ℕ → Type 0 = λ t. length t ≤ longest_text in
    let back : ReadsBack p.program = backward source p.program p.read (subst Short p.printed p.short) in
    subst (ReadsAs p.program) (sym p.printed) back

-- programs of which the same is printed are the same but for positions
same_printed : Alone → (printed : List ℕ) (one other : Program) → ReadsAs one printed → ReadsAs other printed → unplaced other ≡ unplaced one
same_printed alone printed one other r s =
    let both : Ok s.0 ≡ Ok r.0 = alone printed (Ok s.0) (Ok r.0) s.1 r.1 in
    let again : s.0 ≡ r.0 = cc in
    sym s.2 ∙ ap unplaced again ∙ r.2

-- what is printed lays out a source without slashes
pub printed_lays_out : Backward → (source text : List ℕ) → ¬ HasSlashes source → PrintsProgram source text → LaysOutProgram source text
printed_lays_out backward source text none p =
    let back = read_back backward source text p in
    record {
      program = p.program;
      again = back.0;
      read = p.read;
      reread = back.1;
      same = back.2;
      plain = λ no. p.printed;
      woven = λ has. absurd (none has);
    }

-- a text of which the same is printed lays out a source with slashes, if it is what is printed but for comments
pub woven_lays_out : Backward → Alone → (source text printed : List ℕ) → HasSlashes source → PrintsProgram source printed → PrintsProgram text printed → IsWoven printed text → LaysOutProgram source text
woven_lays_out backward alone source text printed slashes p q woven =
    record {
      program = p.program;
      again = q.program;
      read = p.read;
      reread = q.read;
      same = same_printed alone printed p.program q.program (read_back backward source printed p) (read_back backward text printed q);
      plain = λ no. absurd (no slashes);
      woven = λ has. subst (λ t. IsWoven t text) p.printed woven;
    }
