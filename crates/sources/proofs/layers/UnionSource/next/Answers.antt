use Rattle.std.proofs.Common.{◌≡◌, ◌≤◌, ◌++◌, rules, sym, subst, List, ℕ, [], MatchOption}
use Rattle.std.specs.List.{Contains, All}
use Rattle.std.specs.Option.{option_to_list}
use Rattle.std.proofs.iter.runs.Made.{chains}
use Rattle.sources.specs.Sets.{Found, union}
use Rattle.sources.proofs.Lists.{min_of, found_union}
use Rattle.sources.proofs.layers.UnionSource.next.Goals as goal

pub returns : goal.returns
returns g c =
    let s = c.args.self.now in
    let both : List ℕ = option_to_list c.next-one.result ++ option_to_list c.next-other.result in
    let least : MatchOption c.min.result (both ≡ []) (λ m. Contains both m × All (λ day. m ≤ day) both) = search (rules, chains) in
    subst (Found (union (g.A.Source.days s.one) (g.B.Source.days s.other)) c.args.from) (sym (min_of both c.min.result least))
    (found_union _ _ c.args.from _ _ c.next-one.ensures c.next-other.ensures)
