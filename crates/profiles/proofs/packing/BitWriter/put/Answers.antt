-- `put` writes the bytes that become full, and keeps the bits that are left over.
-- Assumes nothing.
use Rattle.profiles.proofs.Putting.{putting, put_inside, put_start, put_well, put_end, put_longer}
use Rattle.std.proofs.Common.{rules, arith}
use Rattle.profiles.proofs.packing.BitWriter.put.Goals as goal

pub overflow_add-whole : goal.overflow_add-whole
overflow_add-whole g c = search (putting, rules)

pub slice_bounds-byte-items-end-2 : goal.slice_bounds-byte-items-end-2
slice_bounds-byte-items-end-2 g c =
    omega (arith, c.self.invariant.long, put_inside c.self.invariant c.self.view_is c.requires.fits c.requires.room c.requires.narrow)

pub loop-byte-init : goal.loop-byte-init
loop-byte-init g c =
    put_start c.self.invariant c.self.view_is c.requires.fits c.requires.room c.requires.narrow

pub loop-byte-preserved : goal.loop-byte-preserved
loop-byte-preserved g c = search (putting, rules)

pub invariant_of-self : goal.invariant_of-self
invariant_of-self g c =
    put_well c.self.invariant c.self.view_is c.requires.fits c.requires.room c.requires.narrow c.loop-byte.invariant
    (omega (arith, c.loop-byte.auto.byte-items, c.loop-byte-test.false))

pub returns : goal.returns
returns g c =
    record {
      packed =
          put_end c.self.invariant c.self.view_is c.requires.fits c.requires.room c.requires.narrow c.loop-byte.invariant
          (omega (arith, c.loop-byte.auto.byte-items, c.loop-byte-test.false));
      longer =
          put_longer c.self.invariant c.self.view_is c.requires.fits c.requires.room c.requires.narrow c.loop-byte.invariant
          (omega (arith, c.loop-byte.auto.byte-items, c.loop-byte-test.false));
    }
