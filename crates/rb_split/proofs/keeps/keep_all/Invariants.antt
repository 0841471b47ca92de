use Rattle.std.proofs.Common.{◌≡◌, ◌++◌, drop}
use Rattle.rb_meaning_split.specs.Parts as meant
use Rattle.rb_split.specs.Drafts as words
use Rattle.rb_split.specs.Views.{program_of, trees, variables}
use Rattle.rb_split.proofs.keeps.keep_all.Given as goal

abbrev pub invariant-found : goal.invariant-found
invariant-found l = record {
  drafted : words.all_kept (program_of l.terms) (variables l.terms) (words.drafted l.draft) (trees (drop l.e-index l.found))
      ≡ words.all_kept (program_of l.terms) (variables l.terms) (words.drafted l.fn.draft) (trees l.found);
  takes : l.takes ++ meant.takes (program_of l.terms) l.draft.step (trees (drop l.e-index l.found)) ≡ meant.takes (program_of l.terms) l.fn.draft.step (trees l.found);
}
