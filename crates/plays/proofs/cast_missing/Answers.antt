use Rattle.std.proofs.Common.{◌≡◌, ℕ, ◌+◌, ◌-◌, ap, ◌∙◌, add-one, arith}
use Rattle.control.specs.Arrangements.{meant}
use Rattle.control.specs.Systems.{System}
use Rattle.sessions.specs.Status.{Status, status}
use Rattle.replies.specs.Plays.{cast, cast_to}
use Rattle.plays.proofs.cast_missing.Goals as goal
use Rattle.plays.proofs.cast_missing.Goals.{After-ballot}

cast_more : (w : System) (s : Status) (i k : ℕ) → i ≡ k + 1 → cast w (cast_to w s k) i ≡ cast_to w s i
unfolding cast_to
cast_more w s i k is = simp (is, add-one)

-- one site more has voted
voted : (g : _) (c : After-ballot g) → status c.ballot.new.self ≡ cast_to (meant c.args.arrangement.now) (status c.args.session.now) c.loop-site.site
voted g c =
    let w = meant c.args.arrangement.now in
    let i = c.loop-site.site in
    c.ballot.ensures.does.1
    ∙ ap (λ s. cast w s i) c.loop-site.invariant
    ∙ cast_more w (status c.args.session.now) i (i - 1) (omega (arith, c.loop-site.auto.site))

pub loop-site-preserved : goal.loop-site-preserved
loop-site-preserved g c =
    let same : c.loop-site.site ≡ c.loop-site.site + 1 - 1 = omega arith in
    voted g (goal.at.loop-site-preserved g c).After-ballot ∙ ap (cast_to (meant c.args.arrangement.now) (status c.args.session.now)) same

pub returns-2 : goal.returns-2
returns-2 g c =
    let last : c.loop-site.site ≡ c.args.arrangement.now.problem.now.sites = omega (arith, c.sites-site-end.ensures) in
    voted g (goal.at.returns-2 g c).After-ballot ∙ ap (cast_to (meant c.args.arrangement.now) (status c.args.session.now)) last
