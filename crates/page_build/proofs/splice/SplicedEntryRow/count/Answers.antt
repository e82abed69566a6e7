use Rattle.std.proofs.Common.{◌≡◌, length, ap, arith}
use Rattle.page.specs.Image.{parse_page}
use Rattle.page_build.specs.Spliced.{listed}
use Rattle.page_build.proofs.Splicing.{count-is}
use Rattle.page_build.proofs.splice.SplicedEntryRow.count.Goals as goal

pub returns-in-None : goal.returns-in-None
returns-in-None c =
    let m : length (listed c.args.self.now.fresh) ≡ 0 = ap (λ f. length (listed f)) c.in-None.is in
    let e = count-is (parse_page c.args.self.now.old.image.now).entries (listed c.args.self.now.fresh) c.args.self.now.keep c.args.self.now.resume c.count-n.result
    c.min-kept.result c.saturating_sub-rest.result 0 c.count-n.ensures.value c.min-kept.ensures c.saturating_sub-rest.ensures m in
    omega arith

pub returns-in-Some : goal.returns-in-Some
returns-in-Some c =
    let m : length (listed c.args.self.now.fresh) ≡ 1 = ap (λ f. length (listed f)) c.in-Some.is in
    let e = count-is (parse_page c.args.self.now.old.image.now).entries (listed c.args.self.now.fresh) c.args.self.now.keep c.args.self.now.resume c.count-n.result
    c.min-kept.result c.saturating_sub-rest.result 1 c.count-n.ensures.value c.min-kept.ensures c.saturating_sub-rest.ensures m in
    omega arith
