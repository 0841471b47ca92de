-- What a buffer has gained where the bytes of a forest or of a refusal were put behind it.
use Rattle.std.proofs.Common.{◌≡◌, ◌<◌, ◌^◌, ℕ, true, List, ◌++◌}
use Rattle.rb_trees.specs.declared.versions.Version.{Version}
use Rattle.rb_trees.specs.mirror.Forests.{Node}
use Rattle.rb_meaning_bytes.specs.formats.Payloads.{IsForestOf, IsRefusalOf}
use Rattle.rb_meaning_bytes.specs.formats.Refusals.{is_refusal_number}
use Rattle.rb_meaning_bytes.specs.formats.ForestBytes.{forest_bytes, refusal_bytes, FormedForest}
use Rattle.rb_meaning_bytes.proofs.formats.ForestsSpelled.{forest_spelled, refusal_spelled}
use Rattle.rb_wire_forest.specs.Buffers.{Appends}
use Rattle.rb_wire_forest.specs.Refused.{refused_with}

pub appends : (version : Version) (old new : List ℕ) (n : Node) → FormedForest n → new ≡ old ++ forest_bytes version n → Appends (λ bytes. IsForestOf version bytes n) old new
appends version old new n h e = record { bytes = forest_bytes version n; is_so = forest_spelled version n h; is = e }

pub appends_refusal : (version : Version) (old new : List ℕ) (number at : ℕ) → is_refusal_number version number ≡ true → at < 2 ^ 32 → new ≡ old ++ refusal_bytes (refused_with version number at)
    → Appends (λ bytes. IsRefusalOf version bytes number at) old new
appends_refusal version old new number at h l e =
    record { bytes = refusal_bytes (refused_with version number at); is_so = refusal_spelled (refused_with version number at) (h, l); is = e }
