use Rattle.std.proofs.Common.{◌≡◌, Some, sym, refl, ap, ◌∙◌}
use Rattle.std.proofs.lemmas.Result.{err_from_is_err_and}
use Rattle.image.specs.Image.{header}
use Rattle.machine.specs.Run.{limits_of, limits}
use Rattle.machine.proofs.Fills.{image_put}
use Rattle.machine.proofs.Loading.{no_image, too_small, large_enough}
use Rattle.machine.proofs.Machine.load.Given.{Over}
use Rattle.machine.proofs.Machine.load.Goals.{After-start}
use Rattle.machine.proofs.Machine.load.Goals as goal

-- the header is the image's, and so are the limits
headed : (g : Over) (c : After-start g) → c.header-header.result ≡ header c.args.bytes.now
headed g c = c.header-header.ensures ∙ c.in_ok-image.ensures.1

limited : (g : Over) (c : After-start g) → c.limits.result ≡ limits c.args.bytes.now
limited g c = c.limits.ensures ∙ ap limits_of (headed g c)

pub returns-in_err-image-clause-load : goal.returns-in_err-image-clause-load
returns-in_err-image-clause-load g c =
    let p = err_from_is_err_and c.from_residual.result c.from_residual.ensures.1 in
    rw (p.1, p.2) (no_image c.args.bytes.now _ _ _ c.in_err-image.ensures, refl)

pub returns-in_err-check_sizes-clause-load : goal.returns-in_err-check_sizes-clause-load
returns-in_err-check_sizes-clause-load g c =
    let same = limited g (goal.at-returns-in_err-check_sizes-clause-load g c).After-start in
    let p = err_from_is_err_and c.from_residual-in_err-check_sizes.result c.from_residual-in_err-check_sizes.ensures.1 in
    let e = c.in_err-check_sizes.ensures.sizes in
    rw (p.1, p.2) (too_small c.args.bytes.now _ _ c.in_ok-image.ensures.0 (rw same at e.1) ∙ ap Some (sym e.0), refl)

pub returns-clause-load : goal.returns-clause-load
returns-clause-load g c =
    let bs = c.args.bytes.now in
    let ok = c.in_ok-image.ensures.0 in
    let same = limited g (goal.at-returns-clause-load g c).After-start in
    let head = headed g (goal.at-returns-clause-load g c).After-start in
    let fits = rw same at c.in_ok-check_sizes.ensures.sizes in
    let filled = rw (head, c.in_ok-image.ensures.2) at c.put_words.ensures.words in
    (large_enough bs _ _ ok fits.0 fits.1, rw (same, c.start.ensures, head) refl, image_put bs _ _ ok fits.0 filled)
