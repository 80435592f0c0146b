use Rattle.std.proofs.Common.{◌∙◌}
use Rattle.std.specs.Ordering.{nat_cmp}
use Rattle.file_tree.proofs.Short.{be_cmp}
use Rattle.file_tree.proofs.short_name.order_of.Goals as goal

pub returns : goal.returns
returns c =
    c.cmp.ensures ∙ (λ i. nat_cmp (c.from_be_bytes.ensures i) (c.from_be_bytes-2.ensures i))
    ∙ be_cmp c.args.bytes.now c.args.others.now c.told-bytes c.told-others c.fits-bytes c.fits-others
