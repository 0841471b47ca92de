use Rattle.rb_json.proofs.Worded.{three_parts}
use Rattle.rb_json.proofs.words.three.Goals as goal

pub returns : goal.returns
returns c = three_parts c.args.parts.now c.index-parts-0.result c.index-parts-1.result c.index-parts-2.result c.requires c.index-parts-0.is c.index-parts-1.is c.index-parts-2.is
