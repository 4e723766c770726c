use Rattle.agreement.proofs.Agreement.{agreement}
use Rattle.agreement.proofs.Charges.{spend_more}
use Rattle.agreement.proofs.Choices.{any_section_memory}
use Rattle.agreement.proofs.Example.{worked_example}
use Rattle.agreement.proofs.Loops.{ticks_are_spent, finish_is_spent, made_agree}
use Rattle.agreement.proofs.Refusals.{refusals_change_nothing}
use Rattle.agreement.proofs.sufficient_units.Goals as goal

pub returns-clause-law : goal.returns-clause-law
returns-clause-law c = agreement

pub returns-clause-memories : goal.returns-clause-memories
returns-clause-memories c = any_section_memory

pub returns-clause-ticks : goal.returns-clause-ticks
returns-clause-ticks c = ticks_are_spent

pub returns-clause-finish : goal.returns-clause-finish
returns-clause-finish c = finish_is_spent

pub returns-clause-portions : goal.returns-clause-portions
returns-clause-portions c = spend_more

pub returns-clause-calls : goal.returns-clause-calls
returns-clause-calls c = made_agree

pub returns-clause-refusals : goal.returns-clause-refusals
returns-clause-refusals c = refusals_change_nothing

pub returns-clause-example : goal.returns-clause-example
returns-clause-example c = worked_example
