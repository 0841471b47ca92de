-- Services that are laid out: by the laws of printed tables, what is printed alike is the same but for positions.
use Rattle.std.proofs.Common.{◌≡◌, ℕ, ◌≤◌, List, length, Ok, sym, ap, subst, ◌∙◌}
use Rattle.rb_trees.specs.declared.services.Object.{Object}
use Rattle.rb_trees.specs.mirror.Services.{Service}
use Rattle.rb_meaning_bytes.specs.tokens.Texts.{longest_text}
use Rattle.rb_meaning.specs.ServiceSources.{ReadsAsService}
use Rattle.rb_parse.specs.Outcomes.{AtMostOne}
use Rattle.rb_law_tables.specs.Printed.{unplaced_service, TableReadsBack, PrintedTablesReadBack, ReadServicesHaveReadClasses}
use Rattle.rb_format.specs.Formats.{HasSlashes, LaysOutService}
use Rattle.rb_format.specs.Prints.{PrintsService}
use Rattle.rb_format.specs.Woven.{IsWoven}

-- a source has at most one outcome as a service
abbrev pub Alone : Type 0
Alone = (source : List ℕ) → AtMostOne (ReadsAsService source)

-- what is printed is read, as the same service but for positions, with the same table
abbrev ReadsAs : Service → List Object → List ℕ → Type 0
ReadsAs service table text = (again : Service) × ReadsAsService text (Ok (again, table)) × (unplaced_service again ≡ unplaced_service service)

read_back : PrintedTablesReadBack → ReadServicesHaveReadClasses → (source text : List ℕ) (p : PrintsService source text) → ReadsAs p.service p.table text
read_back backward classes source text p =
    let Short : List ℕ → Type 0 = λ t. length t ≤ longest_text in
    let back : TableReadsBack p.service p.table =
    backward p.service p.table (classes source p.service p.table p.read) p.typed (subst Short p.printed p.short) in
    subst (ReadsAs p.service p.table) (sym p.printed) back

-- services of which the same is printed are the same but for positions, and have the same table

abbrev pair : Service → List Object → Service × List Object
pair service table = (service, table)

same_again : Alone → (printed : List ℕ) (a b : Service) (s t : List Object) → ReadsAsService printed (Ok (a, s)) → ReadsAsService printed (Ok (b, t)) → pair b t ≡ pair a s
same_again alone printed a b s t r q =
    let both : Ok (pair b t) ≡ Ok (pair a s) = alone printed (Ok (pair b t)) (Ok (pair a s)) q r in
    cc

-- what is printed lays out a source without slashes
pub printed_lays_out : PrintedTablesReadBack → ReadServicesHaveReadClasses → (source text : List ℕ) → ¬ HasSlashes source → PrintsService source text → LaysOutService source text
printed_lays_out backward classes source text none p =
    let back = read_back backward classes source text p in
    record {
      service = p.service;
      again = back.0;
      table = p.table;
      read = p.read;
      reread = back.1;
      same = back.2;
      plain = λ no. p.printed;
      woven = λ has. absurd (none has);
    }

-- a text of which the same is printed lays out a source with slashes, if it is what is printed but for comments
pub woven_lays_out : PrintedTablesReadBack → ReadServicesHaveReadClasses → Alone → (source text printed : List ℕ) → HasSlashes source → PrintsService source printed → PrintsService text printed → IsWoven printed text → LaysOutService source text
woven_lays_out backward classes alone source text printed slashes p q woven =
    let one = read_back backward classes source printed p in
    let other = read_back backward classes text printed q in
    let both = same_again alone printed one.0 other.0 p.table q.table one.1 other.1 in
    record {
      service = p.service;
      again = q.service;
      table = p.table;
      read = p.read;
      reread = subst (λ table. ReadsAsService text (Ok (q.service, table))) (ap (λ s. s.1) both) q.read;
      same = sym other.2 ∙ ap (λ s. unplaced_service s.0) both ∙ one.2;
      plain = λ no. absurd (no slashes);
      woven = λ has. subst (λ t. IsWoven t text) p.printed woven;
    }
