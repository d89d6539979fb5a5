use Rattle.std.proofs.Common.{◌≡◌, rules, tests, min, sym, ◌∙◌, subst}
use Rattle.std.specs.List.{reduce, filter}
use Rattle.std.proofs.lemmas.Iterator.{YieldsList-from_slice}
use Rattle.std.proofs.lemmas.Iterator.Adapters.{option_map_id}
use Rattle.std.proofs.lemmas.Iterator.Consumers.{YieldsList-from_copied, YieldsList-from_filter, YieldsList-at, min_from_yields_List}
use Rattle.sources.specs.Sets.{Found, listed}
use Rattle.sources.proofs.Lists.{late, found_least}
use Rattle.sources.proofs.bottom.ListedSource.next.Goals as goal

pub returns : goal.returns
returns c =
    let least : c.min.result ≡ reduce min (filter (late c.args.from) c.args.self.now.days.now) =
    sym (option_map_id _)
    ∙ min_from_yields_List _ _ c.min.ensures.ran
    (YieldsList-from_filter _ (late c.args.from) (YieldsList-at c.filter.ensures.source (YieldsList-from_copied (YieldsList-from_slice c.args.self.now.days.now cc))) c.filter.ensures.closure (λ x r q k. search (rules, tests))) in
    subst (Found (listed c.args.self.now.days.now) c.args.from) (sym least) (found_least c.args.from c.args.self.now.days.now)
