-- `field::multiply` meets its contract: a product of two u32 fits a u64.
use Rattle.field.proofs.Remainders.{product_fits}
use Rattle.field.proofs.multiply.Goals as goal

pub overflow_mul-a : goal.overflow_mul-a
overflow_mul-a c = record { fits = product_fits _ _ c.ranges.a.fits c.ranges.b.fits }
