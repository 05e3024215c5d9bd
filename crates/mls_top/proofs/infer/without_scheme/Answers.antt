use Rattle.std.proofs.Common.{◌<◌, length, rules, refl, arith}
use Rattle.mls_top.proofs.SitesTold.{read_at, read_below, binding_below, node_below, site_within, site_told}
use Rattle.mls_top.proofs.infer.without_scheme.Goals as goal

pub offset_bounds-as_slice-number : goal.offset_bounds-as_slice-number
offset_bounds-as_slice-number c =
    let low : c.args.number < length c.as_slice.result.now =
    read_below c.args.source.now.bindings c.as_slice.result.now c.args.number c.as_slice.ensures
    (binding_below c.args.text.now c.args.source.now c.requires.source c.args.number c.args.site.now c.requires.fault) in
    let size = c.as_slice.type_inv.1 in
    omega arith

pub bounds-as_slice-number : goal.bounds-as_slice-number
bounds-as_slice-number c =
    read_below c.args.source.now.bindings c.as_slice.result.now c.args.number c.as_slice.ensures
    (binding_below c.args.text.now c.args.source.now c.requires.source c.args.number c.args.site.now c.requires.fault)

pub offset_bounds-as_slice-site : goal.offset_bounds-as_slice-site
offset_bounds-as_slice-site c =
    let low : c.args.site.now.node < length c.as_slice-2.result.now =
    read_below c.index-as_slice-number.result.expr.nodes c.as_slice-2.result.now c.args.site.now.node c.as_slice-2.ensures
    (node_below c.args.text.now c.args.source.now c.requires.source c.args.number c.args.site.now c.requires.fault c.index-as_slice-number.result
    (read_at c.args.source.now.bindings c.as_slice.result.now c.args.number c.index-as_slice-number.result c.as_slice.ensures
    (read_below c.args.source.now.bindings c.as_slice.result.now c.args.number c.as_slice.ensures
    (binding_below c.args.text.now c.args.source.now c.requires.source c.args.number c.args.site.now c.requires.fault))
    c.index-as_slice-number.is)) in
    let size = c.as_slice-2.type_inv.1 in
    omega arith

pub bounds-as_slice-site : goal.bounds-as_slice-site
bounds-as_slice-site c =
    read_below c.index-as_slice-number.result.expr.nodes c.as_slice-2.result.now c.args.site.now.node c.as_slice-2.ensures
    (node_below c.args.text.now c.args.source.now c.requires.source c.args.number c.args.site.now c.requires.fault c.index-as_slice-number.result
    (read_at c.args.source.now.bindings c.as_slice.result.now c.args.number c.index-as_slice-number.result c.as_slice.ensures
    (read_below c.args.source.now.bindings c.as_slice.result.now c.args.number c.as_slice.ensures
    (binding_below c.args.text.now c.args.source.now c.requires.source c.args.number c.args.site.now c.requires.fault))
    c.index-as_slice-number.is))

pub locate-place-requires : goal.locate-place-requires
locate-place-requires c =
    let low = read_below c.args.source.now.bindings c.as_slice.result.now c.args.number c.as_slice.ensures
    (binding_below c.args.text.now c.args.source.now c.requires.source c.args.number c.args.site.now c.requires.fault) in
    let b = read_at c.args.source.now.bindings c.as_slice.result.now c.args.number c.index-as_slice-number.result c.as_slice.ensures low c.index-as_slice-number.is in
    let below = read_below c.index-as_slice-number.result.expr.nodes c.as_slice-2.result.now c.args.site.now.node c.as_slice-2.ensures
    (node_below c.args.text.now c.args.source.now c.requires.source c.args.number c.args.site.now c.requires.fault c.index-as_slice-number.result b) in
    let n = read_at c.index-as_slice-number.result.expr.nodes c.as_slice-2.result.now c.args.site.now.node c.index-as_slice-site.result c.as_slice-2.ensures below c.index-as_slice-site.is in
    site_within c.args.text.now c.args.source.now c.requires.source c.args.number c.args.site.now c.requires.fault c.index-as_slice-number.result b c.index-as_slice-site.result n

pub returns : goal.returns
returns c =
    let low = read_below c.args.source.now.bindings c.as_slice.result.now c.args.number c.as_slice.ensures
    (binding_below c.args.text.now c.args.source.now c.requires.source c.args.number c.args.site.now c.requires.fault) in
    let b = read_at c.args.source.now.bindings c.as_slice.result.now c.args.number c.index-as_slice-number.result c.as_slice.ensures low c.index-as_slice-number.is in
    let below = read_below c.index-as_slice-number.result.expr.nodes c.as_slice-2.result.now c.args.site.now.node c.as_slice-2.ensures
    (node_below c.args.text.now c.args.source.now c.requires.source c.args.number c.args.site.now c.requires.fault c.index-as_slice-number.result b) in
    let n = read_at c.index-as_slice-number.result.expr.nodes c.as_slice-2.result.now c.args.site.now.node c.index-as_slice-site.result c.as_slice-2.ensures below c.index-as_slice-site.is in
    site_told c.args.text.now c.args.source.now c.requires.source c.args.number c.args.site.now c.requires.fault c.index-as_slice-number.result b c.index-as_slice-site.result n
    c.args.file.now _ (record { status = refl; text = search rules })
