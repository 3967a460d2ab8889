-- `enter` gives the set of the name alone where the set is empty and the move inserts; else it enters the kinds. Assumes nothing.
use native.Mathlib.Omega.{arith}
use Rattle.customize_subs.proofs.SetOfNameLaws.{enter-into-empty}
use Rattle.customize_subs.proofs.steps.Asked.enter.Goals as goal

pub returns-in-Insert : goal.returns-in-Insert
returns-in-Insert c =
    let a = c.args in
    enter-into-empty a.self.mode a.self.strategy a.step a.set c.set_of_name.result c.requires (omega arith) c.in-Insert.is c.set_of_name.ensures
