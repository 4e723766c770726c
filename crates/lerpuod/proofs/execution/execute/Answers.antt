use Rattle.std.proofs.Common.{◌≡◌, length, ◌∙◌}
use Rattle.std.proofs.lemmas.Result.{err_from_is_err_and}
use Rattle.machine.proofs.Loading.{no_image}
use Rattle.lerpuod.proofs.Executions.{over, outputs_left}
use Rattle.lerpuod.proofs.execution.execute.Goals.{After-as_mut_slice-2}
use Rattle.lerpuod.proofs.execution.execute.Goals as goal

-- both rows have as many words as are used
sizes : (c : After-as_mut_slice-2) → (length c.as_mut_slice.result.now ≡ 16384) × (length c.as_mut_slice-2.result.now ≡ 16384)
sizes c = (c.as_mut_slice.ensures.len ∙ c.in_ok-memory.ensures.len, c.as_mut_slice-2.ensures.len ∙ c.in_ok-outputs.ensures.len)

pub returns-in_err-image : goal.returns-in_err-image
returns-in_err-image c =
    let p = err_from_is_err_and c.from_residual.result c.from_residual.ensures.1 in
    rw (p.1, p.2) (no_image c.args.bytes.now 16384 16384 _ c.in_err-image.ensures)

pub returns-in_err-end : goal.returns-in_err-end
returns-in_err-end c =
    let many = sizes (goal.at-returns-in_err-end c).After-as_mut_slice-2 in
    let p = err_from_is_err_and c.from_residual-in_err-end.result c.from_residual-in_err-end.ensures.1 in
    rw (p.1, p.2) (over c.args.bytes.now _ _ _ many.0 many.1 c.in_err-end.ensures.execute.0)

pub returns : goal.returns
returns c =
    let many = sizes (goal.at-returns c).After-as_mut_slice-2 in
    let done = c.in_ok-end.ensures.execute in (
      over c.args.bytes.now _ _ _ many.0 many.1 done.accepted,
      record {
        header_is = c.header.ensures ∙ c.in_ok-image.ensures.1;
        core_is = done.core;
        stop_is = done.stop;
        outputs_are =
            outputs_left c.args.bytes.now _ _ _ _ _ c.in_ok-end.end.core c.in_ok-outputs.ensures.len
            (c.execute_on_words.auto.log ∙ many.1) done.core done.outputs c.truncate.ensures.items;
      },
    )
