use Rattle.decoding.proofs.Classed.{class_tells}
use Rattle.decoding.proofs.class_is_distance.Goals as goal

pub returns : goal.returns
returns c = class_tells
