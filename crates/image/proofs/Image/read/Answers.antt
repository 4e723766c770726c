use Rattle.std.proofs.Common.{rules}
use Rattle.std.proofs.lemmas.List.{take_rest}
use Rattle.std.proofs.lemmas.Result.{err_from_is_err_and}
use Rattle.image.proofs.Judgement.{bad_length, bad_header, bad_size, no_refusal}
use Rattle.image.proofs.Image.read.Goals as goal

pub returns-then-bytes-ne0 : goal.returns-then-bytes-ne0
returns-then-bytes-ne0 c = bad_length c.args.bytes.now (search rules)

pub returns-in_err-check : goal.returns-in_err-check
returns-in_err-check c =
    let p = err_from_is_err_and c.from_residual.result c.from_residual.ensures.1 in
    rw (p.1, p.2)
    (bad_header c.args.bytes.now c.if-bytes-ne0.false c.if-bytes-lt-HEADER_BYTES.false _
    (simp c.of-header.ensures at c.in_err-check.ensures))

pub returns-then-bytes-header : goal.returns-then-bytes-header
returns-then-bytes-header c =
    bad_size c.args.bytes.now c.if-bytes-ne0.false c.if-bytes-lt-HEADER_BYTES.false
    (simp c.of-header.ensures at c.in_ok-check.ensures)
    (simp c.of-header.ensures at c.if-bytes-header.true)

pub returns : goal.returns
returns c = (
  no_refusal c.args.bytes.now c.if-bytes-ne0.false c.if-bytes-lt-HEADER_BYTES.false
      (simp c.of-header.ensures at c.in_ok-check.ensures)
      (simp c.of-header.ensures at c.if-bytes-header.false),
  c.of-header.ensures,
  take_rest c.args.bytes.now 28,
)
