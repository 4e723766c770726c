use Rattle.machine.proofs.Steps.{halts, moves, loads, stores, outputs}
use Rattle.machine.proofs.Machine.advance.Goals as goal

pub returns-in-Halt-clause-step : goal.returns-in-Halt-clause-step
returns-in-Halt-clause-step g c = halts _ _ _ _ _ c.word_at-word.ensures _ c.in-Halt.ensures.action

pub returns-in-Next-clause-step : goal.returns-in-Next-clause-step
returns-in-Next-clause-step g c =
    moves _ _ _ _ _ c.word_at-word.ensures c.plan.ensures.room _ _ _ _ c.in-Next.ensures.action c.retire.ensures

pub returns-in-Load-clause-step : goal.returns-in-Load-clause-step
returns-in-Load-clause-step g c =
    loads _ _ _ _ _ c.word_at-word.ensures c.plan.ensures.room _ _ _ _ _ _ c.in-Load.ensures.action c.word_at-word-in-Load.ensures c.retire_load.ensures

pub returns-in-Store-clause-step : goal.returns-in-Store-clause-step
returns-in-Store-clause-step g c =
    stores _ _ _ _ _ c.word_at-word.ensures c.plan.ensures.room _ c.requires.fits _ _ _ _ _ _ c.in-Store.ensures.action c.word_at.ensures
    c.merge-merged.ensures c.put_at.ensures.put c.retire_store.ensures

pub returns-in-Output-clause-step : goal.returns-in-Output-clause-step
returns-in-Output-clause-step g c =
    outputs _ _ _ _ _ c.word_at-word.ensures c.plan.ensures.room _ c.requires.fits c.requires.few _ _ c.in-Output.ensures.action
    c.put_at-in-Output.ensures.put c.retire_output.ensures
