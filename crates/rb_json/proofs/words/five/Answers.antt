use Rattle.rb_json.proofs.Worded.{five_parts}
use Rattle.rb_json.proofs.words.five.Goals as goal

pub returns : goal.returns
returns c = five_parts c.args.parts.now c.index-parts-0.result c.index-parts-1.result c.index-parts-2.result c.index-parts-3.result c.index-parts-4.result c.requires c.index-parts-0.is c.index-parts-1.is c.index-parts-2.is c.index-parts-3.is c.index-parts-4.is
