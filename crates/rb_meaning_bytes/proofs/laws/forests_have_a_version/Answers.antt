use Rattle.rb_meaning_bytes.proofs.formats.ForestVersions.{forest_any, forest_version}
use Rattle.rb_meaning_bytes.proofs.laws.forests_have_a_version.Goals as goal

pub returns-clause-spelled : goal.returns-clause-spelled
returns-clause-spelled c version payload node h = forest_any version payload node h

pub returns-clause-versioned : goal.returns-clause-versioned
returns-clause-versioned c payload node h = forest_version payload node h
