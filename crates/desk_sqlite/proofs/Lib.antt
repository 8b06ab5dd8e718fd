mod HoldMore
