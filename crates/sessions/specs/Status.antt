-- What a session holds. Assumes nothing.
use Rattle.std.specs.Prelude.{ℕ, Bool, true, false, List, [], ◌∷◌, Some, None, Option}
use Rattle.sessions.specs.declared.session.Open.{Open}
use Rattle.sessions.specs.declared.session.Session.{Session}
use Rattle.sessions.specs.declared.session.Site.{Site}

-- the round is the events that fusion allows, once it is settled
pub record Status : Type 0 where
  pub started : Bool
  pub plant_count : ℕ
  pub spec_count : ℕ
  pub site_count : ℕ
  pub state : ℕ
  pub sites : List Site
  pub round : Option ℕ

-- what a new session holds: it is closed
abbrev pub no_site : Site
no_site = record { estimate = 0; ballot = None }

abbrev pub closed : Status
closed =
    record {
      started = false;
      plant_count = 0;
      spec_count = 0;
      site_count = 0;
      state = 0;
      sites = no_site ∷ no_site ∷ no_site ∷ no_site ∷ [];
      round = None;
    }

-- what an open session holds
abbrev pub running : Open → Status
running s =
    record {
      started = true;
      plant_count = s.plant_count;
      spec_count = s.spec_count;
      site_count = s.site_count;
      state = s.state;
      sites = s.sites;
      round = s.settled;
    }

abbrev pub status_of : Option Open → Status
status_of None = closed
status_of (Some s) = running s

abbrev pub status : Session → Status
status s = status_of s.open
