use mir.Facts.{Fits-lt-pow}
use Rattle.rb_wire_script.proofs.Payloads.{told_alone, told_formed, told_suits, told_values, told_valid}
use Rattle.rb_wire_script.proofs.decoding.decode_script.Goals as goal

pub returns-clause-formed : goal.returns-clause-formed
returns-clause-formed c = told_formed _ _ c.decoded.ensures

pub returns-clause-suits : goal.returns-clause-suits
returns-clause-suits c = told_suits _ _ c.decoded.ensures

pub returns-clause-inputs : goal.returns-clause-inputs
returns-clause-inputs c = told_values _ _ c.decoded.ensures

pub returns-clause-valid : goal.returns-clause-valid
returns-clause-valid c = told_valid _ _ c.decoded.ensures

pub returns-clause-alone : goal.returns-clause-alone
returns-clause-alone c meant m = told_alone _ _ (λ i. Fits-lt-pow (c.type_inv.payload i)) c.decoded.ensures meant m
