use Rattle.std.proofs.Common.{arith, ◌/◌}
use lib.Bits.{and_le_r}
use Rattle.field.proofs.Blocks.{products_weighed, weighed_small}
use Rattle.field.proofs.block.weigh.Goals as goal

pub returns : goal.returns
returns c = (products_weighed c.args.four, omega (arith, products_weighed c.args.four, weighed_small c.args.four))

pub overflow_mul-products-2 : goal.overflow_mul-products-2
overflow_mul-products-2 c = omega (arith, and_le_r c.args.four 0x00FF_00FF)

pub overflow_mul-products-4 : goal.overflow_mul-products-4
overflow_mul-products-4 c = omega (arith, and_le_r (c.args.four / 0x100) 0x00FF_00FF)

pub overflow_add-products-3 : goal.overflow_add-products-3
overflow_add-products-3 c = omega (arith, and_le_r c.args.four 0x00FF_00FF, and_le_r (c.args.four / 0x100) 0x00FF_00FF)
