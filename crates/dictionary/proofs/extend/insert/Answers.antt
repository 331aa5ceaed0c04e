use Rattle.dictionary.proofs.Writes.{insert-part}
use native.Mathlib.Omega.{arith}
use Rattle.dictionary.proofs.extend.insert.Goals as goal

pub returns : goal.returns
returns c = let a = c.args in
    let push-front = c.push_front in
    insert-part a.at a.r a.y.0 a.index.now _ (omega arith) (omega arith) push-front.ensures
