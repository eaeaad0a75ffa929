-- The laws: of lists and tests over them, of a clique, of a clique grown along a list, of the cliques one by one, of sets in words.
pub mod ListLaws
pub mod CliqueLaws
pub mod ScanLaws
pub mod ChainLaws
pub mod WordLaws
pub mod HuntLaws
