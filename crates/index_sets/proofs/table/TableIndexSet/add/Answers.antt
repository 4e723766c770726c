use Rattle.std.proofs.Common.{◌<◌, length, get_or, sym, refl, arith}
use Rattle.std.proofs.lemmas.List.{length-take}
use Rattle.index_sets.specs.Tables.{indexes}
use Rattle.index_sets.proofs.Among.{among_at, small_push, apart_push}
use Rattle.index_sets.proofs.table.TableIndexSet.add.Goals as goal

pub returns-then-self-ge-ROOM-clause-took : goal.returns-then-self-ge-ROOM-clause-took
returns-then-self-ge-ROOM-clause-took c =
    let xs = indexes c.args.self.now in (
      (λ h. absurd (omega arith)),
      λ _. (
        refl,
        sym c.if-has.ensures,
        (get_or xs 0 0, among_at xs 0 (get_or xs 0 0) (simp length-take (omega arith)) refl),
        refl,
      ),
    )

pub invariant_of-self : goal.invariant_of-self
invariant_of-self c =
    let room : c.args.self.now.len < length c.args.self.now.items = omega arith in
    record {
      few = omega arith;
      small = small_push _ _ _ room c.if-index-ge-MOST_INDEXES.false c.args.self.now.small;
      apart = apart_push _ _ _ room (sym c.if-has.ensures) c.args.self.now.apart;
    }
